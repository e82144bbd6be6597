-- The parts of a preview section that stands at a place of an input.
use Rattle.std.proofs.Common.{◌≡◌, ℕ, ◌+◌, ◌^◌, ◌<◌, ◌≤◌, Bool, true, false, List, ◌++◌, length, take, drop, get_or, bytes_eq, sym, ap, subst, ◌∙◌, refl, w32, arith, append_assoc, length-append, drop-drop, take-append-drop, length-take-le}
use Rattle.std.specs.Int.{from_le_bytes, to_le_bytes}
use Rattle.std.proofs.lemmas.Nat.{from_le_bytes-to_le_bytes_4}
use Rattle.std.proofs.lemmas.Slice.Eq.{bytes_eq-Decides}
use Rattle.dwg_base.specs.Bytes.{AreBytes, StandsAt}
use Rattle.dwg_base.proofs.ByteLists.{are_bytes}
use Rattle.dwg_sections.specs.Framed.{complemented}
use Rattle.dwg_sections.specs.HeaderLines.{bytes_at, rl_at}
use Rattle.dwg_sections.proofs.BytePieces.{prefix_more, length_at, piece_at, rl_back}
use Rattle.dwg_preview.specs.Previews.{PREVIEW_SENTINEL, preview_bytes}
use Rattle.dwg_preview.specs.PreviewLaws.{PreviewIsCounted, PreviewIsOne}

-- what stands where in a section with this content
pub record SectionStands (bytes : List ℕ) (place : ℕ) (content : List ℕ) : Type 0 where
  pub begin_at : bytes_at bytes place 16 ≡ PREVIEW_SENTINEL
  pub size_at : rl_at bytes (place + 16) ≡ length content
  pub content_at : bytes_at bytes (place + 20) (length content) ≡ content
  pub end_at : bytes_at bytes (place + 20 + length content) 16 ≡ complemented PREVIEW_SENTINEL
  pub within : place + 36 + length content ≤ length bytes

-- four pieces between others, in their order
in_order : (before first second third fourth after : List ℕ) → before ++ ((first ++ second ++ third ++ fourth) ++ after) ≡ before ++ first ++ second ++ third ++ fourth ++ after
in_order before first second third fourth after =
    sym (simp append_assoc)

-- four pieces that stand joined at a place stand there one after the other
pieces_stand : (bytes before begin size content end after : List ℕ) (place : ℕ)
    → bytes ≡ before ++ ((begin ++ size ++ content ++ end) ++ after)
    → length before ≡ place → length begin ≡ 16 → length size ≡ 4 → length end ≡ 16
    → (bytes_at bytes place 16 ≡ begin) × (bytes_at bytes (place + 16) 4 ≡ size) × (bytes_at bytes (place + 20) (length content) ≡ content) × (bytes_at bytes (place + 20 + length content) 16 ≡ end) × (place + 36 + length content ≤ length bytes)
pieces_stand bytes before begin size content end after place stands far sixteen four other_sixteen =
    let from_end = stands ∙ in_order before begin size content end after in
    let from_content = from_end ∙ append_assoc (before ++ begin ++ size ++ content) end after in
    let from_size = from_content ∙ append_assoc (before ++ begin ++ size) content (end ++ after) in
    let from_begin = from_size ∙ append_assoc (before ++ begin) size (content ++ (end ++ after)) in
    let to_size : length (before ++ begin) ≡ place + 16 = omega (arith, length-append before begin) in
    let to_content : length (before ++ begin ++ size) ≡ place + 20 = omega (arith, length-append (before ++ begin) size) in
    let to_end : length (before ++ begin ++ size ++ content) ≡ place + 20 + length content = omega (arith, length-append (before ++ begin ++ size) content) in (
      piece_at bytes before begin _ place 16 from_begin far sixteen,
      piece_at bytes (before ++ begin) size _ (place + 16) 4 from_size to_size four,
      piece_at bytes (before ++ begin ++ size) content _ (place + 20) (length content) from_content to_content refl,
      piece_at bytes (before ++ begin ++ size ++ content) end _ (place + 20 + length content) 16 from_end to_end other_sixteen,
      subst (λ n. place + 36 + length content ≤ n) (sym (ap length from_end))
          (omega (arith, length-append (before ++ begin ++ size ++ content ++ end) after, length-append (before ++ begin ++ size ++ content) end)),
    )

-- the parts of a section that stands at a place
pub section_stands : (bytes : List ℕ) (place : ℕ) (content : List ℕ) → length content < 2 ^ 32 → StandsAt bytes place (preview_bytes content) → SectionStands bytes place content
section_stands bytes place content small there =
    let parts = pieces_stand bytes there.before PREVIEW_SENTINEL (to_le_bytes w32 (length content)) content (complemented PREVIEW_SENTINEL) there.after place there.whole there.far refl refl refl in
    record {
      begin_at = parts.0;
      size_at = ap (from_le_bytes w32) parts.1 ∙ from_le_bytes-to_le_bytes_4 (length content) small;
      content_at = parts.2;
      end_at = parts.3;
      within = parts.4;
    }

-- two sections at one place have one content
pub same_content : (bytes : List ℕ) (place : ℕ) (content other : List ℕ) → length content < 2 ^ 32 → length other < 2 ^ 32
    → StandsAt bytes place (preview_bytes content) → StandsAt bytes place (preview_bytes other) → content ≡ other
same_content bytes place content other small other_small there stands =
    let first = section_stands bytes place content small there in
    let second = section_stands bytes place other other_small stands in
    sym first.content_at ∙ ap (bytes_at bytes (place + 20)) (sym first.size_at ∙ second.size_at) ∙ second.content_at

-- at a place of an input stands one preview section at the most
pub preview_is_one : PreviewIsOne
preview_is_one bytes place content other there stands = same_content bytes place content other there.is.size stands.is.size there.stands stands.stands

-- a section has so many bytes, and those of its content
pub preview_is_counted : PreviewIsCounted
preview_is_counted content =
    let begin = PREVIEW_SENTINEL in
    let size = to_le_bytes w32 (length content) in
    length-append (begin ++ size ++ content) (complemented PREVIEW_SENTINEL)
    ∙ ap (λ n. n + 16) (length-append (begin ++ size) content)
    ∙ omega arith

-- what stands further on after a place
after_place : (bytes : List ℕ) (place skip at count : ℕ) → place + skip ≡ at → bytes_at (drop place bytes) skip count ≡ bytes_at bytes at count
after_place bytes place skip at count same = ap (take count) (drop-drop skip place bytes ∙ ap (λ n. drop n bytes) same)

-- four pieces that follow each other from a place stand there joined
joined_at : (bytes begin size content end : List ℕ) (place count : ℕ)
    → bytes_at bytes place 16 ≡ begin → bytes_at bytes (place + 16) 4 ≡ size → bytes_at bytes (place + 20) count ≡ content → bytes_at bytes (place + 20 + count) 16 ≡ end
    → bytes_at bytes place (16 + 4 + count + 16) ≡ begin ++ size ++ content ++ end
joined_at bytes begin size content end place count one two three four =
    let all = drop place bytes in
    let to_size = prefix_more all begin size 16 4 one (after_place bytes place 16 (place + 16) 4 refl ∙ two) in
    let to_content = prefix_more all (begin ++ size) content 20 count to_size (after_place bytes place 20 (place + 20) count refl ∙ three) in
    prefix_more all (begin ++ size ++ content) end (20 + count) 16 to_content (after_place bytes place _ (place + 20 + count) 16 (omega arith) ∙ four)

-- what stands at a place that lies within the bytes
pub stands_at : (bytes piece : List ℕ) (place count : ℕ) → place ≤ length bytes → bytes_at bytes place count ≡ piece → StandsAt bytes place piece
stands_at bytes piece place count within there = record {
  before = take place bytes;
  after = drop count (drop place bytes);
  whole =
      sym (take-append-drop place bytes)
      ∙ ap (λ rest. take place bytes ++ rest) (sym (take-append-drop count (drop place bytes)) ∙ ap (λ prefix. prefix ++ drop count (drop place bytes)) there);
  far = length-take-le place bytes within;
}

-- where the sentinels stand around as many bytes as the size says, a section with these stands there
pub section_back : (bytes : List ℕ) (place size : ℕ) → AreBytes bytes → rl_at bytes (place + 16) ≡ size → place + 36 + size ≤ length bytes
    → bytes_at bytes place 16 ≡ PREVIEW_SENTINEL → bytes_at bytes (place + 20 + size) 16 ≡ complemented PREVIEW_SENTINEL
    → StandsAt bytes place (preview_bytes (bytes_at bytes (place + 20) size))
section_back bytes place size all sized within begins ends =
    let content = bytes_at bytes (place + 20) size in
    let long : length content ≡ size = length_at bytes (place + 20) size (omega arith) in
    let spelled : bytes_at bytes (place + 16) 4 ≡ to_le_bytes w32 (length content) = rl_back bytes (place + 16) all (omega arith) ∙ ap (to_le_bytes w32) (sized ∙ sym long) in
    stands_at bytes (preview_bytes content) place _ (omega arith) (joined_at bytes PREVIEW_SENTINEL (to_le_bytes w32 (length content)) content (complemented PREVIEW_SENTINEL) place size begins spelled refl ends)

-- where the test of two lists of bytes holds, they are equal
tested : (test : Bool) (a b : List ℕ) → test ≡ bytes_eq a b → test ≡ true → a ≡ b
tested test a b reported holds = (bytes_eq-Decides a b).0 (sym reported ∙ holds)

-- where the tests of the sentinels hold, a section with the content between them stands there
pub section_found : (begins ends : Bool) (bytes : List ℕ) (place size : ℕ) (content : List ℕ) → ((i : ℕ) → get_or bytes i 0 < 256) → size ≡ rl_at bytes (place + 16) → place + 36 + size ≤ length bytes
    → begins ≡ bytes_eq (bytes_at bytes place 16) PREVIEW_SENTINEL → begins ≡ true
    → ends ≡ bytes_eq (bytes_at bytes (place + 20 + size) 16) (complemented PREVIEW_SENTINEL) → ends ≡ true
    → content ≡ bytes_at bytes (place + 20) size
    → StandsAt bytes place (preview_bytes content)
section_found begins ends bytes place size content small sized within begun begun_holds ended ended_holds same =
    subst (λ piece. StandsAt bytes place (preview_bytes piece)) (sym same)
    (section_back bytes place size (are_bytes bytes small) (sym sized) within (tested begins _ _ begun begun_holds) (tested ends _ _ ended ended_holds))

-- where the input ends before a section of the size ends, none stands
pub section_cut : (bytes : List ℕ) (place size : ℕ) → size ≡ rl_at bytes (place + 16) → length bytes < place + 36 + size → (content : List ℕ) → length content < 2 ^ 32 → StandsAt bytes place (preview_bytes content) → ⊥
section_cut bytes place size sized short content small there =
    let stands = section_stands bytes place content small there in
    omega (arith, stands.within, stands.size_at)

-- where another end sentinel stands after as many bytes as the size says, no section stands
pub section_ends_otherwise : (ends : Bool) (bytes : List ℕ) (place size : ℕ) → size ≡ rl_at bytes (place + 16)
    → ends ≡ bytes_eq (bytes_at bytes (place + 20 + size) 16) (complemented PREVIEW_SENTINEL) → ends ≡ false
    → (content : List ℕ) → length content < 2 ^ 32 → StandsAt bytes place (preview_bytes content) → ⊥
section_ends_otherwise ends bytes place size sized ended fails content small there =
    let stands = section_stands bytes place content small there in
    let same : bytes_at bytes (place + 20 + size) 16 ≡ complemented PREVIEW_SENTINEL = ap (λ n. bytes_at bytes (place + 20 + n) 16) (sized ∙ stands.size_at) ∙ stands.end_at in
    let holds : ends ≡ true = ended ∙ (bytes_eq-Decides _ _).1 same in
    absurd (cc (sym fails ∙ holds))
