-- Where a section stands at a place, no line on it fails, and its content is the one that is read.
use Rattle.std.proofs.Common.{◌≡◌, ℕ, ◌+◌, ◌≤◌, List, ◌++◌, length, sym, ap, ap₂, subst, ◌∙◌, refl, w16, w32, arith, append_assoc, length-append}
use Rattle.std.specs.Int.{from_le_bytes, to_le_bytes}
use Rattle.std.proofs.lemmas.Nat.{from_le_bytes-to_le_bytes_2, from_le_bytes-to_le_bytes_4}
use Rattle.dwg_check.specs.CheckWord.{CHECK_SEED, check_word}
use Rattle.dwg_check.proofs.CheckWordLaws.{check_word_fits}
use Rattle.dwg_sections.specs.declared.framed.Framed.{Framed}
use Rattle.dwg_sections.specs.declared.framed.Framed.TheVariants.{Variables, Classes}
use Rattle.dwg_sections.specs.Framed.{begin_sentinel, end_sentinel, sized_content, FramedAt}
use Rattle.dwg_sections.specs.HeaderLines.{bytes_at, rs_at}
use Rattle.dwg_sections.specs.FramedLines.{size_at}
use Rattle.dwg_sections.specs.FramedLaws.{SectionIsRead, SectionIsCounted}
use Rattle.dwg_sections.proofs.BytePieces.{piece_at}
use Rattle.dwg_sections.proofs.FramedPasses.{FramedPasses, none_from_framed_passes}

-- where the parts of a section stand
record PartsStand (bytes begin size content check end : List ℕ) (place count : ℕ) : Type 0 where
  begin_at : bytes_at bytes place 16 ≡ begin
  number_at : bytes_at bytes (place + 16) 4 ≡ size
  sized_at : bytes_at bytes (place + 16) (4 + count) ≡ size ++ content
  inner_at : bytes_at bytes (place + 20) count ≡ content
  check_at : bytes_at bytes (place + 20 + count) 2 ≡ check
  end_at : bytes_at bytes (place + 22 + count) 16 ≡ end
  within : place + 38 + count ≤ length bytes

-- four pieces between others, in their order
in_order : (before first second third fourth after : List ℕ) → before ++ ((first ++ second ++ third ++ fourth) ++ after) ≡ before ++ first ++ second ++ third ++ fourth ++ after
in_order before first second third fourth after =
    sym (simp append_assoc)

-- the parts of a section stand at their places
parts_stand : (bytes before begin size content check end after : List ℕ) (place count : ℕ)
    → bytes ≡ before ++ ((begin ++ (size ++ content) ++ check ++ end) ++ after)
    → length before ≡ place → length begin ≡ 16 → length size ≡ 4 → length content ≡ count → length check ≡ 2 → length end ≡ 16
    → PartsStand bytes begin size content check end place count
parts_stand bytes before begin size content check end after place count stands far sixteen four long two other_sixteen =
    let sized = size ++ content in
    let from_end = stands ∙ in_order before begin sized check end after in
    let from_check = from_end ∙ append_assoc (before ++ begin ++ sized ++ check) end after in
    let from_sized = from_check ∙ append_assoc (before ++ begin ++ sized) check (end ++ after) in
    let from_begin = from_sized ∙ append_assoc (before ++ begin) sized (check ++ (end ++ after)) in
    let rest = check ++ (end ++ after) in
    let from_inner = from_sized ∙ ap (λ prefix. prefix ++ rest) (sym (append_assoc (before ++ begin) size content)) in
    let from_size = from_inner ∙ append_assoc (before ++ begin ++ size) content rest in
    let to_size : length (before ++ begin) ≡ place + 16 = omega (arith, length-append before begin) in
    let to_inner : length (before ++ begin ++ size) ≡ place + 20 = omega (arith, length-append (before ++ begin) size) in
    let wide : length sized ≡ 4 + count = omega (arith, length-append size content) in
    let to_check : length (before ++ begin ++ sized) ≡ place + 20 + count = omega (arith, length-append (before ++ begin) sized) in
    let to_end : length (before ++ begin ++ sized ++ check) ≡ place + 22 + count = omega (arith, length-append (before ++ begin ++ sized) check) in
    record {
      begin_at = piece_at bytes before begin _ place 16 from_begin far sixteen;
      number_at = piece_at bytes (before ++ begin) size _ (place + 16) 4 from_size to_size four;
      sized_at = piece_at bytes (before ++ begin) sized _ (place + 16) (4 + count) from_sized to_size wide;
      inner_at = piece_at bytes (before ++ begin ++ size) content _ (place + 20) count from_inner to_inner long;
      check_at = piece_at bytes (before ++ begin ++ sized) check _ (place + 20 + count) 2 from_check to_check two;
      end_at = piece_at bytes (before ++ begin ++ sized ++ check) end _ (place + 22 + count) 16 from_end to_end other_sixteen;
      within =
          subst (λ n. place + 38 + count ≤ n) (sym (ap length from_end))
          (omega (arith, length-append (before ++ begin ++ sized ++ check ++ end) after, length-append (before ++ begin ++ sized ++ check) end));
    }

-- a section begins with sixteen bytes
length_of_begin : (which : Framed) → length (begin_sentinel which) ≡ 16
length_of_begin Variables = refl
length_of_begin Classes = refl

-- and ends with sixteen
length_of_end : (which : Framed) → length (end_sentinel which) ≡ 16
length_of_end Variables = refl
length_of_end Classes = refl

-- the parts of a section that stands at a place
abbrev SectionStands : List ℕ → ℕ → Framed → List ℕ → Type 0
SectionStands bytes place which content =
    PartsStand bytes (begin_sentinel which) (to_le_bytes w32 (length content)) content (to_le_bytes w16 (check_word CHECK_SEED (sized_content content))) (end_sentinel which) place (length content)

-- they stand at their places
section_parts : (bytes : List ℕ) (place : ℕ) (which : Framed) (content : List ℕ) → FramedAt bytes place which content → SectionStands bytes place which content
section_parts bytes place which content there =
    parts_stand bytes there.stands.before (begin_sentinel which) (to_le_bytes w32 (length content)) content (to_le_bytes w16 (check_word CHECK_SEED (sized_content content))) (end_sentinel which)
    there.stands.after place (length content) there.stands.whole there.stands.far (length_of_begin which) refl refl refl (length_of_end which)

-- the size is read where it stands
size_read : (bytes : List ℕ) (place : ℕ) (which : Framed) (content : List ℕ) → FramedAt bytes place which content → SectionStands bytes place which content → size_at bytes place ≡ length content
size_read bytes place which content there parts =
    ap (from_le_bytes w32) parts.number_at ∙ from_le_bytes-to_le_bytes_4 (length content) there.size

-- parts that stand there are as each line asks
passes_with_size : (bytes : List ℕ) (place : ℕ) (which : Framed) (content : List ℕ) (size : ℕ) → length content ≡ size → SectionStands bytes place which content
    → (rs_at bytes (place + 20 + size) ≡ check_word CHECK_SEED (bytes_at bytes (place + 16) (4 + size))) × (bytes_at bytes (place + 22 + size) 16 ≡ end_sentinel which)
passes_with_size bytes place which content size same parts =
    let word : rs_at bytes (place + 20 + length content) ≡ check_word CHECK_SEED (sized_content content) =
    ap (from_le_bytes w16) parts.check_at ∙ from_le_bytes-to_le_bytes_2 _ (check_word_fits CHECK_SEED (sized_content content) (omega arith)) in
    let Holds : ℕ → Type 0 = λ n. (rs_at bytes (place + 20 + n) ≡ check_word CHECK_SEED (bytes_at bytes (place + 16) (4 + n))) × (bytes_at bytes (place + 22 + n) 16 ≡ end_sentinel which) in
    subst Holds same (word ∙ ap (check_word CHECK_SEED) (sym parts.sized_at), parts.end_at)

-- where a section stands at a place, the bytes are as each line asks
passes_from_section : (bytes : List ℕ) (place : ℕ) (which : Framed) (content : List ℕ) → size_at bytes place ≡ length content → SectionStands bytes place which content → FramedPasses bytes place which
passes_from_section bytes place which content sized parts =
    let within = parts.within in
    let after = passes_with_size bytes place which content (size_at bytes place) (sym sized) parts in
    record {
      long = omega arith;
      begins = parts.begin_at;
      whole = omega arith;
      check = after.0;
      ends = after.1;
    }

-- where a section stands at a place, no line on it fails, and its content is the one that is read
pub section_is_read : SectionIsRead
section_is_read which place bytes content there =
    let parts = section_parts bytes place which content there in
    let sized = size_read bytes place which content there parts in (
      none_from_framed_passes which place bytes (passes_from_section bytes place which content sized parts),
      sym (ap (bytes_at bytes (place + 20)) sized ∙ parts.inner_at),
    )

-- a section has 38 bytes, and those of its content
pub section_is_counted : SectionIsCounted
section_is_counted which content =
    let begin = begin_sentinel which in
    let sized = sized_content content in
    let check = to_le_bytes w16 (check_word CHECK_SEED sized) in
    length-append (begin ++ sized ++ check) (end_sentinel which)
    ∙ ap₂ ◌+◌ (length-append (begin ++ sized) check ∙ ap (λ n. n + 2) (length-append begin sized ∙ ap₂ ◌+◌ (length_of_begin which) (length-append (to_le_bytes w32 (length content)) content))) (length_of_end which)
    ∙ omega arith
