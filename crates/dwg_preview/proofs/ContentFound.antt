-- What the function that finds a content finds: exactly what stands there, and so what is read.
use Rattle.std.proofs.Common.{◌≡◌, ℕ, zero, suc, ◌+◌, ◌*◌, ◌^◌, ◌<◌, ◌≤◌, Bool, true, false, List, Option, Some, None, IfNone, IfSome, length, drop, sym, ap, subst, ◌∙◌, refl, arith, append_assoc, length-take, length-drop}
use Rattle.std.specs.Prelude.{◌&&◌, ◌||◌, ◌==◌, nat_le, nat_lt, if◌then◌else◌, slice_index}
use Rattle.std.specs.Cmp.Derive.{both_true}
use Rattle.std.proofs.lemmas.Bool.{and_parts}
use Rattle.std.proofs.lemmas.Bool.Decides.{nat_tests}
use Rattle.std.proofs.lemmas.Slice.Eq.{bytes_eq-Decides}
use Rattle.dwg_base.specs.Bytes.{AreBytes, StandsAt}
use Rattle.dwg_sections.specs.HeaderLines.{bytes_at, rl_at}
use Rattle.dwg_sections.proofs.BytePieces.{are_bytes_at, piece_at, rl_below}
use Rattle.dwg_preview.specs.ContentAt.{bytes_within, content_at, content_of, is_content, is_section, picture_lies, pictures_lie}
use Rattle.dwg_preview.specs.PreviewLaws.{ContentIsFound}
use Rattle.dwg_preview.specs.Previews.{Entry, IsContent, LiesBetween, PreviewAt, entry_at, preview_bytes}
use Rattle.dwg_preview.specs.declared.preview.Preview.{Preview}
use Rattle.dwg_preview.proofs.Contents.{content_back, content_reads}
use Rattle.dwg_preview.proofs.PreviewParts.{preview_is_counted, section_stands, stands_at}

-- where the test of a picture holds, it lies there
lies_by_test : (from end : ℕ) (entry : Entry) → picture_lies from end entry ≡ true → LiesBetween from end entry
unfolding picture_lies
lies_by_test from end entry test some = (grind (arith, nat_tests, test, some), grind (arith, nat_tests, test, some))

-- the test of a picture, by its numbers
numbers_pass : (from end place size : ℕ) → (0 < size → (from ≤ place) × (place + size ≤ end)) → (size == 0 || (nat_le from place && nat_le (place + size) end)) ≡ true
numbers_pass from end place zero lies = refl
numbers_pass from end place (suc size) lies =
    let there = lies (omega arith) in
    grind (arith, nat_tests, there.0, there.1)

-- where a picture lies there, its test holds
test_by_lies : (from end : ℕ) (entry : Entry) → LiesBetween from end entry → picture_lies from end entry ≡ true
unfolding picture_lies
test_by_lies from end entry lies = numbers_pass from end entry.place entry.size lies

-- where the test of so many pictures holds, each lies there
each_by_test : (from end count : ℕ) (content : List ℕ) (place : ℕ) → pictures_lie from end count content place ≡ true → (i : ℕ) → i < count → LiesBetween from end (entry_at content (place + 9 * i))
unfolding pictures_lie
each_by_test from end zero content place test i inside = absurd (omega arith)
each_by_test from end (suc count) content place test zero inside =
    let here : place ≡ place + 9 * 0 = omega arith in
    subst (λ p. LiesBetween from end (entry_at content p)) here (lies_by_test from end (entry_at content place) (and_parts _ _ test).0)
each_by_test from end (suc count) content place test (suc i) inside =
    let after : place + 9 + 9 * i ≡ place + 9 * suc i = omega arith in
    subst (λ p. LiesBetween from end (entry_at content p)) after (each_by_test from end count content (place + 9) (and_parts _ _ test).1 i (omega arith))

-- where each of so many pictures lies there, their test holds
test_by_each : (from end count : ℕ) (content : List ℕ) (place : ℕ) → ((i : ℕ) → i < count → LiesBetween from end (entry_at content (place + 9 * i))) → pictures_lie from end count content place ≡ true
unfolding pictures_lie
test_by_each from end zero content place each = refl
test_by_each from end (suc count) content place each =
    let here : place + 9 * 0 ≡ place = omega arith in
    let after : (i : ℕ) → place + 9 * suc i ≡ place + 9 + 9 * i = λ i. omega arith in
    both_true (test_by_lies from end (entry_at content place) (subst (λ p. LiesBetween from end (entry_at content p)) here (each 0 (omega arith))))
    (test_by_each from end count content (place + 9) (λ i inside. subst (λ p. LiesBetween from end (entry_at content p)) (after i) (each (suc i) (omega arith))))

-- where three tests hold at once, each does
three_parts : (one two three : Bool) → (one && two && three) ≡ true → (one ≡ true) × (two ≡ true) × (three ≡ true)
three_parts one two three test =
    let prefix = and_parts one two (and_parts (one && two) three test).0 in
    (prefix.0, prefix.1, (and_parts (one && two) three test).1)

-- where the test of a content holds, it is one
content_by_test : (place : ℕ) (content : List ℕ) → AreBytes content → length content < 2 ^ 32 → is_content place content ≡ true → IsContent place content
unfolding is_content
content_by_test place content all small test =
    let count = slice_index content 0 in
    let tests = three_parts (nat_lt 0 (length content)) (nat_le (1 + 9 * count) (length content)) _ test in
    let some : 0 < length content = grind (arith, nat_tests, tests.0) in
    let within : 1 + 9 * count ≤ length content = grind (arith, nat_tests, tests.1) in
    let low : place + 21 + 9 * count ≡ place + 20 + (1 + 9 * count) = omega arith in
    let tested = subst (λ from. pictures_lie from (place + 20 + length content) count content 1 ≡ true) low tests.2 in
    content_back place count content all small some refl within (each_by_test _ _ count content 1 tested)

-- the test of a content holds of one
test_by_content : (place : ℕ) (content : List ℕ) → IsContent place content → is_content place content ≡ true
unfolding is_content
test_by_content place content is =
    let count = slice_index content 0 in
    let reads = content_reads place count content is refl in
    let low : place + 20 + (1 + 9 * count) ≡ place + 21 + 9 * count = omega arith in
    let tested = test_by_each (place + 20 + (1 + 9 * count)) (place + 20 + length content) count content 1 reads.lie in
    let some : nat_lt 0 (length content) ≡ true = grind (arith, nat_tests, reads.some) in
    let within : nat_le (1 + 9 * count) (length content) ≡ true = grind (arith, nat_tests, reads.within) in
    both_true (both_true some within) (subst (λ from. pictures_lie from (place + 20 + length content) count content 1 ≡ true) low tested)

-- where the test of a section holds, it stands there
stands_by_test : (bytes : List ℕ) (place : ℕ) (content : List ℕ) → is_section bytes place content ≡ true → StandsAt bytes place (preview_bytes content)
unfolding is_section
stands_by_test bytes place content test =
    let there : bytes_at bytes place (36 + length content) ≡ preview_bytes content = (bytes_eq-Decides _ _).0 test in
    let long : length (bytes_at bytes place (36 + length content)) ≡ 36 + length content = ap length there ∙ preview_is_counted content in
    let within : place ≤ length bytes = omega (arith, long, length-take (36 + length content) (drop place bytes), length-drop place bytes) in
    stands_at bytes (preview_bytes content) place (36 + length content) within there

-- the test of a section holds where it stands
test_by_stands : (bytes : List ℕ) (place : ℕ) (content : List ℕ) → StandsAt bytes place (preview_bytes content) → is_section bytes place content ≡ true
unfolding is_section
test_by_stands bytes place content there =
    let whole = there.whole ∙ sym (append_assoc there.before (preview_bytes content) there.after) in
    (bytes_eq-Decides _ _).1 (piece_at bytes there.before (preview_bytes content) there.after place (36 + length content) whole there.far (preview_is_counted content))

-- a content is found where both of its tests hold
found_by_tests : (stands is : Bool) (there content : List ℕ) → there ≡ content → stands ≡ true → is ≡ true → (if stands && is then Some there else None) ≡ Some content
found_by_tests true true there content same first second = ap Some same
found_by_tests true false there content same first second = absurd cc
found_by_tests false is there content same first second = absurd cc

-- where a content is found, both of its tests hold
tests_of_found : (stands is : Bool) (there content : List ℕ) → (if stands && is then Some there else None) ≡ Some content → (stands ≡ true) × (is ≡ true) × (there ≡ content)
tests_of_found true true there content found = (refl, refl, cc)
tests_of_found true false there content found = absurd cc
tests_of_found false is there content found = absurd cc

-- what is found stands there
found_stands : (bytes : List ℕ) (place : ℕ) (content : List ℕ) → AreBytes bytes → content_at bytes place ≡ Some content → PreviewAt bytes place content
unfolding content_at
found_stands bytes place content all found =
    let there = bytes_within bytes place in
    let tests = tests_of_found (is_section bytes place there) (is_content place there) there content found in
    let small : length there < 2 ^ 32 = omega (arith, rl_below bytes (place + 16) all, length-take (rl_at bytes (place + 16)) (drop (place + 20) bytes)) in
    let is = content_by_test place there (are_bytes_at bytes (place + 20) (rl_at bytes (place + 16)) all) small tests.1 in
    subst (PreviewAt bytes place) tests.2 (record { is = is; stands = stands_by_test bytes place there tests.0 })

-- what stands there is found
standing_found : (bytes : List ℕ) (place : ℕ) (content : List ℕ) → PreviewAt bytes place content → content_at bytes place ≡ Some content
unfolding content_at
standing_found bytes place content there =
    let parts = section_stands bytes place content there.is.size there.stands in
    let same : bytes_within bytes place ≡ content = ap (bytes_at bytes (place + 20)) parts.size_at ∙ parts.content_at in
    found_by_tests _ _ (bytes_within bytes place) content same
    (ap (is_section bytes place) same ∙ test_by_stands bytes place content there.stands)
    (ap (is_content place) same ∙ test_by_content place content there.is)

-- the function finds exactly what stands there
pub content_is_found : ContentIsFound
content_is_found bytes place all = (λ content found. found_stands bytes place content all found, standing_found bytes place)

-- what is found is nothing, where no content stands there
none_found : (bytes : List ℕ) (place : ℕ) (found : Option (List ℕ)) → content_at bytes place ≡ found → AreBytes bytes → ((content : List ℕ) → PreviewAt bytes place content → ⊥) → None ≡ content_at bytes place
none_found bytes place None is all none = sym is
none_found bytes place (Some content) is all none = absurd (none content (found_stands bytes place content all is))

-- what is read is what the function finds
pub read_is_found : (bytes : List ℕ) (place : ℕ) (read : Option Preview) → AreBytes bytes
    → IfSome read (λ preview. (preview.place ≡ place) × PreviewAt bytes place preview.content.now)
    → IfNone read ((content : List ℕ) → PreviewAt bytes place content → ⊥)
    → content_of read ≡ content_at bytes place
read_is_found bytes place None all some none = none_found bytes place (content_at bytes place) refl all none
read_is_found bytes place (Some preview) all some none = sym (standing_found bytes place preview.content.now some.1)
