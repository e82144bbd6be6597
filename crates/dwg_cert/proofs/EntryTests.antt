-- What it means that the entry of an index fails, or doesn't.
use Rattle.std.proofs.Common.{◌≡◌, inl, inr, ℕ, zero, suc, ◌+◌, ◌^◌, ◌<◌, ◌≤◌, Bool, true, false, List, refl, sym, ◌∙◌, ap, arith, ltb-false, le-ltb}
use Rattle.std.specs.Prelude.{◌||◌, nat_lt, nat_le}
use Rattle.std.proofs.lemmas.Bool.{or_parts, or_from, false_from_ne_true}
use Rattle.std.proofs.lemmas.Bool.Decides.{nat_tests}
use Rattle.dwg_cert.specs.CertificateLines.{stored_handle_at, stored_rank_at, stored_chain_at, least_handle, entry_fails, IsNotAbove, EntryFails}

-- the least handle after an entry
pub least_after : (bytes : List ℕ) (index : ℕ) → least_handle bytes (index + 1) ≡ stored_handle_at bytes index + 1
unfolding least_handle
least_after bytes index = let next : index + 1 ≡ suc index = omega arith in ap (least_handle bytes) next

-- the first entry may have any handle
pub least_first : (bytes : List ℕ) → least_handle bytes 0 ≡ 0
unfolding least_handle
least_first bytes = refl

-- an entry that passes has a handle that it may have, and numbers that it may have
pub record Passes (bytes : List ℕ) (index : ℕ) : Type 0 where
  pub least : least_handle bytes index ≤ stored_handle_at bytes index
  pub handle : stored_handle_at bytes index < 2 ^ 63
  pub rank : stored_rank_at bytes index ≤ 2 ^ 62
  pub chain : stored_chain_at bytes index ≤ 2 ^ 62

-- where the test is false, it passes
pub passes_from_test : (bytes : List ℕ) (index : ℕ) → entry_fails bytes index ≡ false → Passes bytes index
unfolding entry_fails
passes_from_test bytes index fails =
    let all = or_parts _ _ fails in
    let prefix = or_parts _ _ all.0 in
    let handle = or_parts _ _ prefix.0 in
    record {
      least = ltb-false _ _ handle.0;
      handle = let test : nat_le (2 ^ 63) (stored_handle_at bytes index) ≡ false = handle.1 in grind (arith, nat_tests);
      rank = ltb-false _ _ prefix.1;
      chain = ltb-false _ _ all.1;
    }

-- and where it passes, the test is false
pub test_from_passes : (bytes : List ℕ) (index : ℕ) → Passes bytes index → entry_fails bytes index ≡ false
unfolding entry_fails
test_from_passes bytes index passes =
    let handle : nat_le (2 ^ 63) (stored_handle_at bytes index) ≡ false = let small : stored_handle_at bytes index < 2 ^ 63 = passes.handle in grind (arith, nat_tests) in
    or_from _ _ (or_from _ _ (or_from _ _ (le-ltb _ _ passes.least) handle) (le-ltb _ _ passes.rank)) (le-ltb _ _ passes.chain)

-- a handle that is less than the least isn't above the one before it
not_above : (bytes : List ℕ) (index : ℕ) → stored_handle_at bytes index < least_handle bytes index → IsNotAbove bytes index
unfolding least_handle
not_above bytes zero less = absurd (omega (arith, less))
not_above bytes (suc index) less = (index, omega arith, omega (arith, less))

-- an entry that fails doesn't pass
both_never : (bytes : List ℕ) (index : ℕ) → Passes bytes index → EntryFails bytes index → ⊥
both_never bytes index passes (inl large) = omega (arith, passes.handle)
both_never bytes index passes (inr (inl (before, next, less))) =
    let least : least_handle bytes index ≡ stored_handle_at bytes before + 1 = ap (least_handle bytes) (sym next) ∙ least_after bytes before in
    omega (arith, passes.least)
both_never bytes index passes (inr (inr (inl large))) = omega (arith, passes.rank)
both_never bytes index passes (inr (inr (inr large))) = omega (arith, passes.chain)

-- where the test is true, the entry fails
pub fails_from_test : (bytes : List ℕ) (index : ℕ) → entry_fails bytes index ≡ true → EntryFails bytes index
unfolding entry_fails
fails_from_test bytes index test = one_of _ _ _ _ refl refl refl refl test
  where
    one_of : (less large rank chain : Bool) → nat_lt (stored_handle_at bytes index) (least_handle bytes index) ≡ less → nat_le (2 ^ 63) (stored_handle_at bytes index) ≡ large
        → nat_lt (2 ^ 62) (stored_rank_at bytes index) ≡ rank → nat_lt (2 ^ 62) (stored_chain_at bytes index) ≡ chain → (less || large || rank || chain) ≡ true → EntryFails bytes index
    one_of true large rank chain one two three four test = inr (inl (not_above bytes index (grind (arith, nat_tests))))
    one_of false true rank chain one two three four test = inl (grind (arith, nat_tests))
    one_of false false true chain one two three four test = inr (inr (inl (grind (arith, nat_tests))))
    one_of false false false true one two three four test = inr (inr (inr (grind (arith, nat_tests))))
    one_of false false false false one two three four test = absurd cc

-- and where it is false, the entry doesn't fail
pub holds_from_test : (bytes : List ℕ) (index : ℕ) → entry_fails bytes index ≡ false → EntryFails bytes index → ⊥
holds_from_test bytes index test = both_never bytes index (passes_from_test bytes index test)

-- where the entry fails, the test is true
pub test_from_fails : (bytes : List ℕ) (index : ℕ) → EntryFails bytes index → entry_fails bytes index ≡ true
test_from_fails bytes index fails = true_or_not _ refl
  where
    true_or_not : (test : Bool) → entry_fails bytes index ≡ test → test ≡ true
    true_or_not true same = refl
    true_or_not false same = absurd (holds_from_test bytes index same fails)

-- and where it doesn't fail, the test is false
pub test_from_holds : (bytes : List ℕ) (index : ℕ) → (EntryFails bytes index → ⊥) → entry_fails bytes index ≡ false
test_from_holds bytes index holds = false_from_ne_true (entry_fails bytes index) (λ (test : entry_fails bytes index ≡ true). holds (fails_from_test bytes index test))
