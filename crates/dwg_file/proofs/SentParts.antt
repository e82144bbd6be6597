-- Parts of the canonical file that are made in the room of one, or sent around bytes that are held.
use Rattle.std.proofs.Common.{◌≡◌, refl, sym, ◌∙◌, ap, ap₂, ℕ, ◌+◌, ◌^◌, ◌<◌, ◌%◌, List, [], ◌++◌, length, append_assoc, append-nil, arith}
use Rattle.dwg_base.specs.declared.version.Version.{Version}
use Rattle.std.specs.Int.{w16, to_le_bytes}
use Rattle.dwg_base.specs.Bytes.{AreBytes}
use Rattle.dwg_bits.specs.Bits.{bits}
use Rattle.dwg_bits.proofs.BitLaws.{length_of_bits}
use Rattle.dwg_bits.specs.Sink.{Written, Extends}
use Rattle.dwg_bits.specs.WholeBytes.{whole_bytes}
use Rattle.dwg_bits.proofs.WholeBytes.{whole_of_bits}
use Rattle.dwg_check.specs.CheckWord.{CHECK_SEED, check_word}
use Rattle.dwg_check.proofs.CheckWordLaws.{check_word_append}
use Rattle.dwg_grammar.specs.ModularCodes.{ms}
use Rattle.dwg_object.specs.Frames.{frame_bytes, framed_body}
use Rattle.dwg_object.specs.Objects.ObjectValue.{RawValue}
use Rattle.dwg_preview.specs.Previews.{PREVIEW_SENTINEL, prefix_bytes, further_bytes}
use Rattle.dwg_preview.proofs.Moving.{section_is_pieces}
use Rattle.dwg_sections.specs.Framed.{complemented}
use Rattle.dwg_file.specs.Canonical.{Carried, IsCarried, preview_at}

-- what was made in an empty room is whole bytes
pub part_aligned : (cleared made : Written) (bytes : List ℕ) → cleared.written ≡ [] → Extends cleared made (bits bytes) → length made.written % 8 ≡ 0
part_aligned cleared made bytes empty grew = omega (arith, ap length (grew.bits ∙ ap (λ prefix. prefix ++ bits bytes) empty), length_of_bits bytes)

-- and its bytes are those that were written
pub part_bytes : (cleared made : Written) (bytes held : List ℕ) → cleared.written ≡ [] → Extends cleared made (bits bytes) → AreBytes bytes → held ≡ whole_bytes made.written → held ≡ bytes
part_bytes cleared made bytes held empty grew are same =
    same ∙ ap whole_bytes (grew.bits ∙ ap (λ prefix. prefix ++ bits bytes) empty) ∙ whole_of_bits bytes are

-- three pieces that are given one after the other
pub three_given : (a b c : List ℕ) → a ++ (b ++ (c ++ [])) ≡ a ++ b ++ c
three_given a b c = ap (λ rest. a ++ (b ++ rest)) (append-nil c) ∙ sym (append_assoc a b c)

-- so are those of a preview
pub preview_given : (carried : Carried) (place : ℕ) (begun after end ended : List ℕ) → IsCarried carried → place + 36 + length carried.content < 2 ^ 32
    → begun ≡ prefix_bytes carried.place place carried.content → after ≡ further_bytes carried.content → ended ≡ end → end ≡ complemented PREVIEW_SENTINEL
    → begun ++ (after ++ (ended ++ [])) ≡ preview_at carried place
preview_given carried place begun after end ended is below starts goes_on stops ends =
    three_given begun after ended
    ∙ ap₂ (λ first (second : List ℕ). first ++ second ++ ended) starts goes_on
    ∙ ap (λ last. prefix_bytes carried.place place carried.content ++ further_bytes carried.content ++ last) (stops ∙ ends)
    ∙ section_is_pieces carried.place place carried.content is.is below

-- and five, the second and the third together
pub five_given : (a b c d e : List ℕ) → a ++ (b ++ (c ++ (d ++ (e ++ [])))) ≡ a ++ (b ++ c) ++ d ++ e
five_given a b c d e =
    ap (λ rest. a ++ (b ++ (c ++ rest))) (ap (λ rest. d ++ rest) (append-nil e)) ∙ ap (λ rest. a ++ rest) (sym (append_assoc b c (d ++ e))) ∙ sym (append_assoc a (b ++ c) (d ++ e))
    ∙ sym (append_assoc (a ++ (b ++ c)) d e)

-- a length, a body and a check word of both are the frame of the body
pub frame_given : (size body word spelled : List ℕ) (begun checked : ℕ) → size ≡ spelled → begun ≡ check_word CHECK_SEED size → checked ≡ check_word begun body → word ≡ to_le_bytes w16 checked
    → size ++ (body ++ (word ++ [])) ≡ framed_body spelled body
frame_given size body word spelled begun checked same begins goes_on is =
    let over : checked ≡ check_word CHECK_SEED (size ++ body) = goes_on ∙ ap (λ start. check_word start body) begins ∙ sym (check_word_append CHECK_SEED size body) in
    three_given size body word ∙ ap (λ end. size ++ body ++ end) (is ∙ ap (to_le_bytes w16) over) ∙ ap (λ prefix. framed_body prefix body) same

-- what stands around a content and the content are the section
pub framed_given : (begin size content word end first second fourth fifth whole : List ℕ) → first ≡ begin → second ≡ size → fourth ≡ word → fifth ≡ end
    → begin ++ (size ++ content) ++ word ++ end ≡ whole → first ++ (second ++ (content ++ (fourth ++ (fifth ++ [])))) ≡ whole
framed_given begin size content word end first second fourth fifth whole begins sized checked ends is =
    let joined : List ℕ → List ℕ → List ℕ = λ prefix back. prefix ++ back in
    five_given first second content fourth fifth ∙ ap₂ joined (ap₂ joined (ap₂ joined begins (ap (λ all. all ++ content) sized)) checked) ends ∙ is

-- the frame of a Raw object is that of its bytes
pub raw_frame : (version : Version) (number handle : ℕ) (bytes : List ℕ) → framed_body (ms.short (length bytes)) bytes ≡ frame_bytes version (RawValue number handle bytes)
unfolding frame_bytes
raw_frame version number handle bytes = refl
