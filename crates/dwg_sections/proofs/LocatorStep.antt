-- Locators read one by one: what is read so far and what is left give the whole.
use Rattle.std.proofs.Common.{◌≡◌, sym, ◌∙◌, ap, ℕ, suc, ◌+◌, ◌-◌, ◌*◌, ◌<◌, ◌≤◌, refl, zero, List, [], ◌∷◌, ◌++◌, length, get_or, append_assoc, append-nil, arith}
use Rattle.std.proofs.lemmas.List.{length-map}
use Rattle.dwg_sections.specs.declared.header.Locator.{Locator}
use Rattle.dwg_sections.specs.FileHeader.{locator_numbers}
use Rattle.dwg_sections.specs.HeaderLines.{count_at, locator_at, locators_at, numbers_at}

-- of one locator or more, the first stands at the place and the others after it
first_locator : (left more place next : ℕ) (bytes : List ℕ) → left ≡ suc more → next ≡ place + 9
    → locators_at left bytes place ≡ locator_at bytes place ∷ locators_at more bytes next
unfolding locators_at
first_locator left more place next bytes one after =
    ap (λ n. locators_at n bytes place) one ∙ ap (λ p. locator_at bytes place ∷ locators_at more bytes p) (sym after)

-- with one locator more read, one fewer is left
pub one_locator_less : (read : List Locator) (count i : ℕ) (bytes : List ℕ) → i < count
    → (read ++ locator_at bytes (25 + 9 * i) ∷ []) ++ locators_at (count - (i + 1)) bytes (25 + 9 * (i + 1))
    ≡ read ++ locators_at (count - i) bytes (25 + 9 * i)
one_locator_less read count i bytes inside =
    append_assoc read _ _
    ∙ ap (λ rest. read ++ rest) (sym (first_locator (count - i) (count - (i + 1)) (25 + 9 * i) (25 + 9 * (i + 1)) bytes (omega arith) (omega arith)))

-- with no locator left, all are read
pub no_locator_left : (read : List Locator) (count i place : ℕ) (bytes : List ℕ) → count ≤ i
    → read ++ locators_at (count - i) bytes place ≡ read
unfolding locators_at
no_locator_left read count i place bytes past =
    let none : count - i ≡ 0 = omega arith in
    ap (λ n. read ++ locators_at n bytes place) none ∙ append-nil read

-- the locators that are read are so many
pub length_of_locators_at : (count : ℕ) (bytes : List ℕ) (place : ℕ) → length (locators_at count bytes place) ≡ count
unfolding locators_at
length_of_locators_at zero bytes place = refl
length_of_locators_at (suc count) bytes place = ap suc (length_of_locators_at count bytes (place + 9))

-- so are their numbers
pub numbers_counted : (bytes : List ℕ) → length (numbers_at bytes) ≡ count_at bytes
unfolding numbers_at
numbers_counted bytes = length-map (locators_at (count_at bytes) bytes 25) _ ∙ length_of_locators_at (count_at bytes) bytes 25

-- the number of each locator stands nine bytes after that of the one before
number_of_locator : (count : ℕ) (bytes : List ℕ) (place i : ℕ) → i < count → get_or (locator_numbers (locators_at count bytes place)) i 0 ≡ get_or bytes (place + 9 * i) 0
unfolding locators_at
number_of_locator zero bytes place i inside = absurd (omega arith)
number_of_locator (suc count) bytes place zero inside = ap (λ p. get_or bytes p 0) (omega arith)
number_of_locator (suc count) bytes place (suc i) inside =
    number_of_locator count bytes (place + 9) i (omega arith) ∙ ap (λ p. get_or bytes p 0) (omega arith)

-- the number of a locator is read at its first byte
pub number_is_read : (bytes : List ℕ) (i : ℕ) → i < count_at bytes → get_or bytes (25 + 9 * i) 0 ≡ get_or (numbers_at bytes) i 0
unfolding numbers_at
number_is_read bytes i inside = sym (number_of_locator (count_at bytes) bytes 25 i inside)
