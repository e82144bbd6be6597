-- Bytes in which no line on a section at a place fails have the section with the content that is read there.
use Rattle.std.proofs.Common.{◌≡◌, ℕ, ◌+◌, ◌^◌, ◌<◌, ◌≤◌, List, None, ◌++◌, length, take, drop, get_or, sym, ap, subst, ◌∙◌, refl, w16, w32, arith, drop-drop, take-append-drop, length-take-le}
use Rattle.std.specs.Int.{to_le_bytes}
use Rattle.dwg_base.specs.Bytes.{AreBytes, StandsAt}
use Rattle.dwg_base.proofs.ByteLists.{are_bytes}
use Rattle.dwg_base.specs.Refusals.{first_fault}
use Rattle.dwg_check.specs.CheckWord.{CHECK_SEED, check_word}
use Rattle.dwg_sections.specs.declared.framed.Framed.{Framed}
use Rattle.dwg_sections.specs.Framed.{begin_sentinel, end_sentinel, sized_content, framed_bytes, FramedAt}
use Rattle.dwg_sections.specs.HeaderLines.{bytes_at}
use Rattle.dwg_sections.specs.FramedLines.{size_at, content_at, framed_lines}
use Rattle.dwg_sections.specs.FramedLaws.{PassingBytesHaveSection}
use Rattle.dwg_sections.proofs.BytePieces.{prefix_more, length_at, rs_back, rl_back, rl_below}
use Rattle.dwg_sections.proofs.FramedPasses.{FramedPasses, framed_passes_from_none}

-- what stands further on after a place
after_place : (bytes : List ℕ) (place skip at count : ℕ) → place + skip ≡ at → bytes_at (drop place bytes) skip count ≡ bytes_at bytes at count
after_place bytes place skip at count same = ap (take count) (drop-drop skip place bytes ∙ ap (λ n. drop n bytes) same)

-- four pieces that follow each other from a place stand there joined
joined_at : (bytes first second third fourth : List ℕ) (place count : ℕ)
    → bytes_at bytes place 16 ≡ first → bytes_at bytes (place + 16) (4 + count) ≡ second → bytes_at bytes (place + 20 + count) 2 ≡ third → bytes_at bytes (place + 22 + count) 16 ≡ fourth
    → bytes_at bytes place (16 + (4 + count) + 2 + 16) ≡ first ++ second ++ third ++ fourth
joined_at bytes first second third fourth place count one two three four =
    let all = drop place bytes in
    let to_second = prefix_more all first second 16 (4 + count) one (after_place bytes place 16 (place + 16) (4 + count) refl ∙ two) in
    let to_third = prefix_more all (first ++ second) third (16 + (4 + count)) 2 to_second (after_place bytes place _ (place + 20 + count) 2 (omega arith) ∙ three) in
    prefix_more all (first ++ second ++ third) fourth (16 + (4 + count) + 2) 16 to_third (after_place bytes place _ (place + 22 + count) 16 (omega arith) ∙ four)

-- what stands at a place that lies within the bytes
stands_at : (bytes piece : List ℕ) (place count : ℕ) → place ≤ length bytes → bytes_at bytes place count ≡ piece → StandsAt bytes place piece
stands_at bytes piece place count within there = record {
  before = take place bytes;
  after = drop count (drop place bytes);
  whole =
      sym (take-append-drop place bytes)
      ∙ ap (λ rest. take place bytes ++ rest) (sym (take-append-drop count (drop place bytes)) ∙ ap (λ prefix. prefix ++ drop count (drop place bytes)) there);
  far = length-take-le place bytes within;
}

-- the size and the content are those of the content
sized_back : (bytes : List ℕ) (place : ℕ) → AreBytes bytes → place + 20 + size_at bytes place ≤ length bytes → bytes_at bytes (place + 16) (4 + size_at bytes place) ≡ sized_content (content_at bytes place)
sized_back bytes place all within =
    let long : length (content_at bytes place) ≡ size_at bytes place = length_at bytes (place + 20) (size_at bytes place) within in
    prefix_more (drop (place + 16) bytes) (to_le_bytes w32 (length (content_at bytes place))) (content_at bytes place) 4 (size_at bytes place)
    (rl_back bytes (place + 16) all (omega arith) ∙ ap (to_le_bytes w32) (sym long))
    (after_place bytes (place + 16) 4 (place + 20) (size_at bytes place) (omega arith))

-- bytes that are as each line asks have the section there
section_back : (bytes : List ℕ) (place : ℕ) (which : Framed) → AreBytes bytes → FramedPasses bytes place which → FramedAt bytes place which (content_at bytes place)
section_back bytes place which all passes =
    let whole = passes.whole in
    let size = size_at bytes place in
    let sized = sized_back bytes place all (omega arith) in
    let word = rs_back bytes (place + 20 + size) all (omega arith) ∙ ap (to_le_bytes w16) (passes.check ∙ ap (check_word CHECK_SEED) sized) in
    record {
      size = subst (λ n. n < 2 ^ 32) (sym (length_at bytes (place + 20) size (omega arith))) (rl_below bytes (place + 16) all);
      stands = stands_at bytes (framed_bytes which (content_at bytes place)) place _ (omega arith)
          (joined_at bytes (begin_sentinel which) (sized_content (content_at bytes place)) _ (end_sentinel which) place size passes.begins sized word passes.ends);
    }

-- bytes in which no line on a section at a place fails have the section there
pub section_stands : PassingBytesHaveSection
section_stands which place bytes all none = section_back bytes place which all (framed_passes_from_none which place bytes none)

-- where no line fails, the content by its place is that of the section there
pub section_with_value : (bytes content : List ℕ) (place : ℕ) (which : Framed) → ((i : ℕ) → get_or bytes i 0 < 256) → first_fault (framed_lines which place) bytes ≡ None → content ≡ content_at bytes place → FramedAt bytes place which content
section_with_value bytes content place which small none same =
    subst (FramedAt bytes place which) (sym same) (section_stands which place bytes (are_bytes bytes small) none)
