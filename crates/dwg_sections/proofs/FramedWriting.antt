-- A framed section that is written piece by piece.
use Rattle.std.proofs.Common.{◌≡◌, ℕ, List, ◌++◌, length, sym, ap, ap₂, subst, ◌∙◌, w16, w32}
use Rattle.std.specs.Int.{to_le_bytes}
use Rattle.dwg_bits.specs.Bits.{bits}
use Rattle.dwg_bits.specs.Sink.{Written, Extends}
use Rattle.dwg_check.specs.CheckWord.{CHECK_SEED, check_word}
use Rattle.dwg_check.proofs.CheckWordLaws.{check_word_append}
use Rattle.dwg_sections.specs.declared.framed.Framed.{Framed}
use Rattle.dwg_sections.specs.Framed.{begin_sentinel, end_sentinel, sized_content, framed_bytes}
use Rattle.dwg_sections.specs.Writing.{Puts}
use Rattle.dwg_sections.proofs.BytePuts.{puts_both}

-- the check word of the size, and of the content begun as that, is the section's
word_of_section : (size content : List ℕ) (first word : ℕ) → size ≡ to_le_bytes w32 (length content) → first ≡ check_word CHECK_SEED size → word ≡ check_word first content
    → word ≡ check_word CHECK_SEED (sized_content content)
word_of_section size content first word sized begun gone_on =
    gone_on ∙ ap (λ start. check_word start content) begun ∙ sym (check_word_append CHECK_SEED size content)
    ∙ ap (λ piece. check_word CHECK_SEED (piece ++ content)) sized

-- the pieces of a section, joined, are the section
pub pieces_of_section : (which : Framed) (content begin size checked end : List ℕ) (first word : ℕ)
    → begin ≡ begin_sentinel which → size ≡ to_le_bytes w32 (length content) → first ≡ check_word CHECK_SEED size → word ≡ check_word first content → checked ≡ to_le_bytes w16 word → end ≡ end_sentinel which
    → begin ++ (size ++ content) ++ checked ++ end ≡ framed_bytes which content
pieces_of_section which content begin size checked end first word begins sized begun gone_on spelled ends =
    let closed : checked ≡ to_le_bytes w16 (check_word CHECK_SEED (sized_content content)) = spelled ∙ ap (to_le_bytes w16) (word_of_section size content first word sized begun gone_on) in
    ap₂ ◌++◌ (ap₂ ◌++◌ (ap₂ ◌++◌ begins (ap (λ piece. piece ++ content) sized)) closed) ends

-- a sink that grew by one piece after the other grew by the section
pub section_written : (first second third fourth fifth sixth : Written) (begin size content checked end whole : List ℕ)
    → Puts first second begin → Puts second third size → Puts third fourth content → Puts fourth fifth checked → Puts fifth sixth end
    → begin ++ (size ++ content) ++ checked ++ end ≡ whole
    → Extends first sixth (bits whole)
section_written first second third fourth fifth sixth begin size content checked end whole one two three four five same =
    let sized = puts_both second third fourth size content two three in
    let to_content = puts_both first second fourth begin (size ++ content) one sized in
    let to_word = puts_both first fourth fifth (begin ++ (size ++ content)) checked to_content four in
    let all = puts_both first fifth sixth (begin ++ (size ++ content) ++ checked) end to_word five in
    subst (λ bytes. Extends first sixth (bits bytes)) same all.written
