-- Laws of tests over lists: what it says that each passes, that one passes, which are kept and which is found first.
use Rattle.std.proofs.Common.{◌≡◌, sym, refl, ap, ◌∙◌, subst, inl, inr, ⊎_elim}
use Rattle.std.proofs.lemmas.Bool.{cases_Bool, and_parts, and_from, or_cases}
use Rattle.std.proofs.lemmas.Option.{same_Some}
use Rattle.std.specs.Prelude.{◌⊎◌, Bool, true, false, cond, ◌||◌, List, [], ◌∷◌, Option, Some, find, filter, Contains}
use Rattle.std.specs.List.{list_all, list_any}
use Rattle.dwg_chains.proofs.MemberLemmas.{contains_none, contains_first, contains_after, contains_cases}

-- each of a list passes, if all do
pub each_of_all : {A : Type 0} (test : A → Bool) (xs : List A) (y : A) → list_all test xs ≡ true → Contains xs y → test y ≡ true
each_of_all test [] y all inside = absurd (contains_none y inside)
each_of_all {A} test (x ∷ xs) y all inside =
    let parts = and_parts (test x) (list_all test xs) all in
    ⊎_elim (λ same. subst (λ (z : A). test z ≡ true) same parts.0) (λ after. each_of_all test xs y parts.1 after) (contains_cases x xs y inside)

-- all of a list pass, if each does
pub all_of_each : {A : Type 0} (test : A → Bool) (xs : List A) → ((y : A) → Contains xs y → test y ≡ true) → list_all test xs ≡ true
all_of_each test [] each = refl
all_of_each test (x ∷ xs) each =
    and_from (test x) (list_all test xs) (each x (contains_first x xs)) (all_of_each test xs (λ y inside. each y (contains_after x xs y inside)))

-- one of a list passes, if any does
pub one_of_any : {A : Type 0} (test : A → Bool) (xs : List A) → list_any test xs ≡ true → (y : A) × Contains xs y × (test y ≡ true)
one_of_any test [] any = absurd (cc any)
one_of_any test (x ∷ xs) any = ⊎_elim
    (λ here. (x, contains_first x xs, here))
    (λ after. let one = one_of_any test xs after in (one.0, contains_after x xs one.0 one.1, one.2))
    (or_cases (test x) (list_any test xs) any)

-- any of a list passes, if its first does
any_at_first : {A : Type 0} (test : A → Bool) (x : A) (xs : List A) → test x ≡ true → list_any test (x ∷ xs) ≡ true
any_at_first test x xs here = rw here

-- any of a list passes, if any after its first does
any_after : (here after : Bool) → after ≡ true → (here || after) ≡ true
any_after true after is = refl
any_after false after is = is

-- any of a list passes, if one does
pub any_of_one : {A : Type 0} (test : A → Bool) (xs : List A) (y : A) → Contains xs y → test y ≡ true → list_any test xs ≡ true
any_of_one test [] y inside passes = absurd (contains_none y inside)
any_of_one test (x ∷ xs) y inside passes = ⊎_elim
    (λ same. any_at_first test x xs (ap test same ∙ passes))
    (λ after. any_after (test x) (list_any test xs) (any_of_one test xs y after passes))
    (contains_cases x xs y inside)

-- what is after the first is kept, whether that is kept or not
kept_after : {A : Type 0} (here : Bool) (x : A) (kept : List A) (y : A) → Contains kept y → Contains (cond here (x ∷ kept) kept) y
kept_after true x kept y inside = contains_after x kept y inside
kept_after false x kept y inside = inside

-- what passes is kept
pub kept_of_passing : {A : Type 0} (test : A → Bool) (xs : List A) (y : A) → Contains xs y → test y ≡ true → Contains (filter test xs) y
kept_of_passing test [] y inside passes = absurd (contains_none y inside)
kept_of_passing {A} test (x ∷ xs) y inside passes = ⊎_elim
    (λ same. let here : test x ≡ true = ap test same ∙ passes in
    rw here (subst (λ (z : A). Contains (x ∷ filter test xs) z) same (contains_first x (filter test xs))))
    (λ after. kept_after (test x) x (filter test xs) y (kept_of_passing test xs y after passes))
    (contains_cases x xs y inside)

-- what is kept of a list with a first thing is that and passes, or is kept of the rest
kept_cases : {A : Type 0} (here : Bool) (x : A) (kept : List A) (y : A) → Contains (cond here (x ∷ kept) kept) y → ((here ≡ true) × (x ≡ y)) ⊎ Contains kept y
kept_cases true x kept y inside = ⊎_elim (λ same. inl (refl, same)) (λ after. inr after) (contains_cases x kept y inside)
kept_cases false x kept y inside = inr inside

-- what is kept is in the list and passes
pub passing_of_kept : {A : Type 0} (test : A → Bool) (xs : List A) (y : A) → Contains (filter test xs) y → Contains xs y × (test y ≡ true)
passing_of_kept test [] y inside = absurd (contains_none y inside)
passing_of_kept {A} test (x ∷ xs) y inside = ⊎_elim
    (λ here. (subst (λ (z : A). Contains (x ∷ xs) z) here.1 (contains_first x xs), sym (ap test here.1) ∙ here.0))
    (λ after. let further = passing_of_kept test xs y after in (contains_after x xs y further.0, further.1))
    (kept_cases (test x) x (filter test xs) y inside)

-- what is found is in the list and passes
pub passing_of_found : {A : Type 0} (test : A → Bool) (xs : List A) (y : A) → find test xs ≡ Some y → Contains xs y × (test y ≡ true)
passing_of_found test [] y found = absurd (cc found)
passing_of_found {A} test (x ∷ xs) y found = ⊎_elim
    (λ (here : test x ≡ true). let same : x ≡ y = same_Some x y (rw here at found) in
    (subst (λ (z : A). Contains (x ∷ xs) z) same (contains_first x xs), subst (λ (z : A). test z ≡ true) same here))
    (λ (away : test x ≡ false). let further = passing_of_found test xs y (rw away at found) in (contains_after x xs y further.0, further.1))
    (cases_Bool (test x))

-- something is found, if the first passes or something after it is found
found_or_after : {A : Type 0} (here : Bool) (x : A) (after : Option A) → (z : A) × (after ≡ Some z) → (z : A) × (cond here (Some x) after ≡ Some z)
found_or_after true x after found = (x, refl)
found_or_after false x after found = found

-- something is found, if something passes
pub found_of_passing : {A : Type 0} (test : A → Bool) (xs : List A) (y : A) → Contains xs y → test y ≡ true → (z : A) × (find test xs ≡ Some z)
found_of_passing test [] y inside passes = absurd (contains_none y inside)
found_of_passing {A} test (x ∷ xs) y inside passes = ⊎_elim
    (λ same. let here : test x ≡ true = ap test same ∙ passes in (x, rw here))
    (λ after. found_or_after (test x) x (find test xs) (found_of_passing test xs y after passes))
    (contains_cases x xs y inside)
