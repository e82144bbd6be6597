-- What holds of the handles of pairs: when one more is positive and new.
use Rattle.std.proofs.Common.{◌≡◌, refl, sym, ◌∙◌, ap, subst, ℕ, zero, suc, ◌<◌, Bool, true, false, List, [], ◌∷◌, ◌++◌, length, arith}
use Rattle.std.proofs.Math.ListN.{get_or-append}
use Rattle.std.proofs.Math.Seq.{get_or-append_seam}
use Rattle.std.specs.Prelude.{◌≢◌, ◌==◌, ◌||◌, Contains, slice_index}
use Rattle.std.specs.List.{AllByRecursion, list_any}
use Rattle.std.proofs.lemmas.Bool.Decides.{nat_tests}
use Rattle.std.proofs.lemmas.List.{map-append, length-append}
use Rattle.dwg_objmap.specs.declared.pair.Pair.{Pair}
use Rattle.dwg_objmap.specs.Pages.{AreHandles, handles_of}
use Rattle.dwg_objmap.specs.MapLines.{has_handle}

-- one of the numbers is this one
abbrev has : List ℕ → ℕ → Bool
has numbers number = list_any (λ (other : ℕ). other == number) numbers

-- pairs have the handles of their list
has_handles : (pairs : List Pair) (handle : ℕ) → has_handle pairs handle ≡ has (handles_of pairs) handle
has_handles [] handle = refl
has_handles (pair ∷ pairs) handle = ap (λ rest. (pair.handle == handle) || rest) (has_handles pairs handle)

-- where none of them is, each is another
others_differ : (numbers : List ℕ) (number i : ℕ) → has numbers number ≡ false → i < length numbers → slice_index numbers i ≢ number
others_differ [] number i none inside = absurd (omega arith)
others_differ (other ∷ numbers) number i none inside = by_test (other == number) refl i inside none (λ rest j within. others_differ numbers number j rest within)
  where
    by_test : (test : Bool) → (other == number) ≡ test → (i : ℕ) → i < length (other ∷ numbers) → test || has numbers number ≡ false
        → (has numbers number ≡ false → (j : ℕ) → j < length numbers → slice_index numbers j ≢ number) → slice_index (other ∷ numbers) i ≢ number
    by_test true is i inside none after = absurd (cc)
    by_test false is zero inside none after = λ same. grind (arith, nat_tests)
    by_test false is (suc i) inside none after = after none i (omega arith)

-- where each is another, none of them is
none_of_them : (numbers : List ℕ) (number : ℕ) → ((i : ℕ) → i < length numbers → slice_index numbers i ≢ number) → has numbers number ≡ false
none_of_them [] number differ = refl
none_of_them (other ∷ numbers) number differ = by_test (other == number) refl (none_of_them numbers number (λ i inside. differ (suc i) (omega arith)))
  where
    by_test : (test : Bool) → (other == number) ≡ test → has numbers number ≡ false → test || has numbers number ≡ false
    by_test true is rest = let same : other ≡ number = grind (arith, nat_tests) in absurd (differ 0 (omega arith) same)
    by_test false is rest = rest

-- where one of them is, it stands among them
one_of_them : (numbers : List ℕ) (number : ℕ) → has numbers number ≡ true → Contains numbers number
one_of_them [] number one = absurd (cc)
one_of_them (other ∷ numbers) number one = by_test (other == number) refl one (λ rest. one_of_them numbers number rest)
  where
    by_test : (test : Bool) → (other == number) ≡ test → test || has numbers number ≡ true → (has numbers number ≡ true → Contains numbers number) → Contains (other ∷ numbers) number
    by_test true is one after = (0, omega arith, grind (arith, nat_tests))
    by_test false is one after = let (i, inside, same) = after one in (suc i, omega arith, same)

-- and what stands among them is one of them
stands_one : (numbers : List ℕ) (number : ℕ) → Contains numbers number → has numbers number ≡ true
stands_one [] number (i, inside, same) = absurd (omega arith)
stands_one (other ∷ numbers) number (zero, inside, same) =
    let is : (other == number) ≡ true = grind (arith, nat_tests) in ap (λ test. test || has numbers number) is
stands_one (other ∷ numbers) number (suc i, inside, same) = either (other == number) (has numbers number) (stands_one numbers number (i, omega arith, same))
  where
    either : (one more : Bool) → more ≡ true → one || more ≡ true
    either true more holds = refl
    either false more holds = holds

-- a handle that pairs have stands among theirs
pub stands_among : (pairs : List Pair) (handle : ℕ) → has_handle pairs handle ≡ true → Contains (handles_of pairs) handle
stands_among pairs handle one = one_of_them (handles_of pairs) handle (sym (has_handles pairs handle) ∙ one)

-- and one that stands there they have
pub has_among : (pairs : List Pair) (handle : ℕ) → Contains (handles_of pairs) handle → has_handle pairs handle ≡ true
has_among pairs handle stands = has_handles pairs handle ∙ stands_one (handles_of pairs) handle stands

-- all of a list and one more
all_more : (P : ℕ → Type 0) (numbers : List ℕ) (number : ℕ) → AllByRecursion P numbers → P number → AllByRecursion P (numbers ++ number ∷ [])
all_more P [] number all one = (one, tt)
all_more P (other ∷ numbers) number all one = (all.0, all_more P numbers number all.1 one)

-- all of the prefix of a list
all_prefix : (P : ℕ → Type 0) (numbers others : List ℕ) → AllByRecursion P (numbers ++ others) → AllByRecursion P numbers
all_prefix P [] others all = tt
all_prefix P (number ∷ numbers) others all = (all.0, all_prefix P numbers others all.1)

-- the one after the prefix of a list
all_after : (P : ℕ → Type 0) (numbers others : List ℕ) (number : ℕ) → AllByRecursion P (numbers ++ number ∷ others) → P number
all_after P [] others number all = all.0
all_after P (other ∷ numbers) others number all = all_after P numbers others number all.1

-- one more handle after handles, positive and new
are_more : (handles : List ℕ) (handle : ℕ) → AreHandles handles → 0 < handle → has handles handle ≡ false → AreHandles (handles ++ handle ∷ [])
are_more handles handle are some new = record {
  positive = all_more (λ n. 0 < n) handles handle are.positive some;
  distinct = λ i j before inside. by_place i j before inside (j == length handles) refl;
}
  where
    by_place : (i j : ℕ) → i < j → j < length (handles ++ handle ∷ []) → (test : Bool) → (j == length handles) ≡ test → slice_index (handles ++ handle ∷ []) i ≢ slice_index (handles ++ handle ∷ []) j
    by_place i j before inside true is = λ same.
        let last : j ≡ length handles = grind (arith, nat_tests) in
        others_differ handles handle i new (omega arith)
        (sym (get_or-append handles (handle ∷ []) 0 i (omega arith)) ∙ same ∙ ap (slice_index (handles ++ handle ∷ [])) last ∙ get_or-append_seam handles handle [] 0)
    by_place i j before inside false is = λ same.
        let other : j ≢ length handles = grind (arith, nat_tests) in
        let within : j < length handles = omega (arith, length-append handles (handle ∷ [])) in
        are.distinct i j before within
        (sym (get_or-append handles (handle ∷ []) 0 i (omega arith)) ∙ same ∙ get_or-append handles (handle ∷ []) 0 j within)

-- the handles of pairs and of one more
handles_after : (pairs others : List Pair) (pair : Pair) → handles_of (pairs ++ pair ∷ others) ≡ handles_of pairs ++ pair.handle ∷ handles_of others
handles_after pairs others pair = map-append (λ (pair : Pair). pair.handle) pairs (pair ∷ others)

-- the handles of one more pair are positive and distinct, where its own is positive and new
pub handles_more : (pairs : List Pair) (pair : Pair) → AreHandles (handles_of pairs) → 0 < pair.handle → has_handle pairs pair.handle ≡ false → AreHandles (handles_of (pairs ++ pair ∷ []))
handles_more pairs pair are some new =
    subst AreHandles (sym (handles_after pairs [] pair)) (are_more (handles_of pairs) pair.handle are some (sym (has_handles pairs pair.handle) ∙ new))

-- so are those of a prefix of the pairs
pub handles_prefix : (pairs others : List Pair) → AreHandles (handles_of (pairs ++ others)) → AreHandles (handles_of pairs)
handles_prefix pairs others are_all = record {
  positive = all_prefix (λ n. 0 < n) (handles_of pairs) (handles_of others) are.positive;
  distinct = λ i j before inside same.
      are.distinct i j before (omega (arith, length-append (handles_of pairs) (handles_of others)))
      (get_or-append (handles_of pairs) (handles_of others) 0 i (omega arith) ∙ same ∙ sym (get_or-append (handles_of pairs) (handles_of others) 0 j inside));
}
  where
    are : AreHandles (handles_of pairs ++ handles_of others)
    are = subst AreHandles (map-append (λ (pair : Pair). pair.handle) pairs others) are_all

-- the handle of a pair after others is positive and new
pub handle_after : (pairs others : List Pair) (pair : Pair) → AreHandles (handles_of (pairs ++ pair ∷ others)) → (0 < pair.handle) × (has_handle pairs pair.handle ≡ false)
handle_after pairs others pair are_all = (
  all_after (λ n. 0 < n) (handles_of pairs) (handles_of others) pair.handle are.positive,
  has_handles pairs pair.handle ∙ none_of_them (handles_of pairs) pair.handle (λ i inside same.
      are.distinct i (length (handles_of pairs)) inside (omega (arith, length-append (handles_of pairs) (pair.handle ∷ handles_of others)))
      (get_or-append (handles_of pairs) (pair.handle ∷ handles_of others) 0 i inside ∙ same ∙ sym (get_or-append_seam (handles_of pairs) pair.handle (handles_of others) 0))),
)
  where
    are : AreHandles (handles_of pairs ++ pair.handle ∷ handles_of others)
    are = subst AreHandles (handles_after pairs others pair) are_all

-- no handles are positive and distinct
pub no_handles : AreHandles []
no_handles = record { positive = tt; distinct = λ i j before inside. absurd (omega arith) }
