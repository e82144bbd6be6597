-- A search among handles that ascend: all before what is left are less than the handle, and all after it are greater.
use Rattle.std.proofs.Common.{◌≡◌, refl, sym, ◌∙◌, ap, subst, inl, inr, ◌<◌, ◌≤◌, ◌+◌, ◌*◌, ◌-◌, ◌/◌, ◌^◌, pow-add, ℕ, zero, suc, List, length, arith}
use Rattle.std.specs.Prelude.{◌⊎◌, true, false, Contains, ◌==◌, min}
use Rattle.std.specs.Ordering.{is_lt, nat_cmp}
use Rattle.std.proofs.lemmas.Bool.Decides.{nat_tests}
use Rattle.std.proofs.lemmas.Map.Keys.{ge_from_not_lt}
use Rattle.std.specs.List.{slice_index_or}
use Rattle.std.proofs.lemmas.Bool.{cases_lt}
use Rattle.std.proofs.Math.Nat.{le-min, lt_of_not-le, min-eq_left, min-eq_right, min-le_left, mul-le-mul_right}
use Rattle.std.proofs.Math.Pow.{pow_mono}
use Rattle.std.proofs.lemmas.List.{get_or_default}
use Rattle.dwg_graph.specs.Places.{Ascend, CanStand}

-- so many handles are left from a place on, after so many probes
pub record IsSearch (handles : List ℕ) (handle from width spent : ℕ) : Type 0 where
  pub left : CanStand handles handle from width
  pub halved : width * 2 ^ spent ≤ length handles
  pub taken : (k : ℕ) → length handles < 2 ^ k → spent ≤ k

-- a search that has taken these steps
abbrev pub Spends : List ℕ → ℕ → ℕ → ℕ → ℕ → ℕ → Type 0
Spends handles handle from width start steps = (start ≤ steps) × IsSearch handles handle from width (steps - start)

-- the search begins where the handle can stand
pub begins : (handles : List ℕ) (handle from width start : ℕ) → CanStand handles handle from width → Spends handles handle from width start start
begins handles handle from width start can =
    let none : start - start ≡ 0 = omega arith in (
      omega arith,
      subst (IsSearch handles handle from width) (sym none) (record {
        left = can;
        halved = omega (arith, can.within);
        taken = λ k fits. omega arith;
      }),
    )

-- a number whose power of two is less than that of another is less
less_from_powers : (s k : ℕ) → 2 ^ s < 2 ^ k → s < k
less_from_powers s k less = lt_of_not-le (λ more. absurd (omega (arith, pow_mono more, less)))

-- where some are left, one probe more is within the bound
pub probed : (handles : List ℕ) (handle from width spent : ℕ) → IsSearch handles handle from width spent → 0 < width → (k : ℕ) → length handles < 2 ^ k → spent + 1 ≤ k
probed handles handle from width spent is some k fits =
    let one : 1 * 2 ^ spent ≤ width * 2 ^ spent = mul-le-mul_right (2 ^ spent) some in
    omega (arith, less_from_powers spent k (omega (arith, one, is.halved, fits)))

-- the power of one more
doubled_power : (spent : ℕ) → 2 ^ (spent + 1) ≡ 2 * 2 ^ spent
doubled_power spent = pow-add 2 spent 1 ∙ grind arith

-- half of what is left, after one probe more
halved_again : (width left spent most : ℕ) → width * 2 ^ spent ≤ most → left + left ≤ width → left * 2 ^ (spent + 1) ≤ most
halved_again width left spent most halved few =
    let twice : (left + left) * 2 ^ spent ≤ width * 2 ^ spent = mul-le-mul_right (2 ^ spent) few in
    let doubled : left * 2 ^ (spent + 1) ≡ (left + left) * 2 ^ spent = ap (λ p. left * p) (doubled_power spent) ∙ grind arith in
    omega (arith, doubled, twice, halved)

-- each handle is greater than the one before it: one that stands so much further on is at least so much greater
far_apart : (handles : List ℕ) (i j more : ℕ) → Ascend handles → j ≡ i + more → j < length handles → slice_index_or handles i 0 + more ≤ slice_index_or handles j 0
far_apart handles i j zero ascend is within =
    let same : slice_index_or handles j 0 ≡ slice_index_or handles i 0 = ap (λ n. slice_index_or handles n 0) (omega (arith, is)) in
    omega (arith, same)
far_apart handles i j (suc more) ascend is within =
    let before : slice_index_or handles i 0 + more ≤ slice_index_or handles (i + more) 0 = far_apart handles i (i + more) more ascend refl (omega (arith, is, within)) in
    omega (arith, before, ascend (i + more) j 0 (omega (arith, is)) within)

-- what stands at a lesser handle or before it is less
at_or_before : (handles : List ℕ) (handle i at : ℕ) → Ascend handles → at < length handles → slice_index_or handles at 0 < handle → i ≤ at → slice_index_or handles i 0 < handle
at_or_before handles handle i at ascend within less most = omega (arith, far_apart handles i at (at - i) ascend (omega (arith, most)) within, less)

-- what stands at a greater handle or after it is greater
at_or_after : (handles : List ℕ) (handle i at : ℕ) → Ascend handles → i < length handles → handle < slice_index_or handles at 0 → at ≤ i → handle < slice_index_or handles i 0
at_or_after handles handle i at ascend within greater least = omega (arith, far_apart handles at i (i - at) ascend (omega (arith, least)) within, greater)

-- the handle in the middle is less: the search goes on after it
pub goes_on_after : (handles : List ℕ) (handle from width spent : ℕ) → Ascend handles → IsSearch handles handle from width spent → 0 < width
    → slice_index_or handles (from + width / 2) 0 < handle → IsSearch handles handle (from + width / 2 + 1) (width - width / 2 - 1) (spent + 1)
goes_on_after handles handle from width spent ascend is some less = record {
  left = record {
    within = omega (arith, is.left.within, some);
    below = λ i before. at_or_before handles handle i (from + width / 2) ascend (omega (arith, is.left.within, some)) less (omega (arith, before));
    above = λ i after within. is.left.above i (omega (arith, after, some)) within;
  };
  halved = halved_again width (width - width / 2 - 1) spent (length handles) is.halved (omega (arith, some));
  taken = λ k fits. probed handles handle from width spent is some k fits;
}

-- it is greater: the search goes on before it
pub goes_on_before : (handles : List ℕ) (handle from width spent : ℕ) → Ascend handles → IsSearch handles handle from width spent → 0 < width
    → handle < slice_index_or handles (from + width / 2) 0 → IsSearch handles handle from (width / 2) (spent + 1)
goes_on_before handles handle from width spent ascend is some greater = record {
  left = record {
    within = omega (arith, is.left.within);
    below = is.left.below;
    above = λ i after within. at_or_after handles handle i (from + width / 2) ascend within greater after;
  };
  halved = halved_again width (width / 2) spent (length handles) is.halved (omega arith);
  taken = λ k fits. probed handles handle from width spent is some k fits;
}

-- none are left: the handle isn't among them
pub is_missing : (handles : List ℕ) (handle from width spent : ℕ) → IsSearch handles handle from width spent → width ≤ 0 → Contains handles handle → ⊥
is_missing handles handle from width spent is none (i, within, same) =
    let here : slice_index_or handles i 0 ≡ handle = get_or_default handles i 0 handle within ∙ same in
    not_here here (cases_lt i from)
  where
    not_here : slice_index_or handles i 0 ≡ handle → (i < from) ⊎ (from ≤ i) → ⊥
    not_here here (inl before) = omega (arith, is.left.below i before, here)
    not_here here (inr after) = omega (arith, is.left.above i (omega (arith, after, none)) within, here)

-- a probe that finds a lesser handle
pub spends_after : (handles : List ℕ) (handle from width start steps more here : ℕ) → Ascend handles → Spends handles handle from width start steps → 0 < width
    → here ≡ slice_index_or handles (from + width / 2) here → true ≡ is_lt (nat_cmp here handle) → more ≡ steps + 1
    → Spends handles handle (from + width / 2 + 1) (width - width / 2 - 1) start more
spends_after handles handle from width start steps more here ascend is some at less one =
    let spent : (steps - start) + 1 ≡ more - start = omega (arith, is.0, one) in
    let zero_default : slice_index_or handles (from + width / 2) here ≡ slice_index_or handles (from + width / 2) 0 =
    get_or_default handles (from + width / 2) here 0 (omega (arith, is.1.left.within, some)) in
    let lesser : slice_index_or handles (from + width / 2) 0 < handle = grind (arith, nat_tests, at, zero_default, less) in (
      omega (arith, is.0, one),
      subst (IsSearch handles handle (from + width / 2 + 1) (width - width / 2 - 1)) spent
          (goes_on_after handles handle from width (steps - start) ascend is.1 some lesser),
    )

-- a probe that finds a greater handle
pub spends_before : (handles : List ℕ) (handle from width start steps more here : ℕ) → Ascend handles → Spends handles handle from width start steps → 0 < width
    → here ≡ slice_index_or handles (from + width / 2) here → false ≡ (here == handle) → false ≡ is_lt (nat_cmp here handle) → more ≡ steps + 1
    → Spends handles handle from (width / 2) start more
spends_before handles handle from width start steps more here ascend is some at differ not_less one =
    let spent : (steps - start) + 1 ≡ more - start = omega (arith, is.0, one) in
    let zero_default : slice_index_or handles (from + width / 2) here ≡ slice_index_or handles (from + width / 2) 0 =
    get_or_default handles (from + width / 2) here 0 (omega (arith, is.1.left.within, some)) in
    let greater : handle < slice_index_or handles (from + width / 2) 0 = grind (arith, nat_tests, at, zero_default, differ, ge_from_not_lt here handle (sym not_less)) in (
      omega (arith, is.0, one),
      subst (IsSearch handles handle from (width / 2)) spent
          (goes_on_before handles handle from width (steps - start) ascend is.1 some greater),
    )

-- what is known of the bounds between which a handle can stand: how much it differs from the highest and from the lowest
pub record AreBounds (handles : List ℕ) (handle lowest highest from end : ℕ) : Type 0 where
  pub ascend : Ascend handles
  pub first : lowest ≡ slice_index_or handles 0 0
  pub last : highest ≡ slice_index_or handles (length handles - 1) 0
  pub least : lowest ≤ handle
  pub most : handle ≤ highest
  pub begins : from ≡ length handles - (highest - handle + 1)
  pub ends : end ≡ min (length handles) (handle - lowest + 1)

-- they are in order
pub in_order : (handles : List ℕ) (handle lowest highest from end : ℕ) → AreBounds handles handle lowest highest from end → from ≤ end
in_order handles handle lowest highest from end are = go (cases_lt 0 (length handles))
  where
    few : length handles ≤ (highest - handle + 1) + (handle - lowest + 1) → from ≤ end
    few most = omega (arith, are.ends, le-min {k = from} {a = length handles} {b = handle - lowest + 1} (omega (arith, are.begins)) (omega (arith, are.begins, most)))

    go : (0 < length handles) ⊎ (length handles ≤ 0) → from ≤ end
    go (inl some) =
        let apart : slice_index_or handles 0 0 + (length handles - 1) ≤ slice_index_or handles (length handles - 1) 0 =
        far_apart handles 0 (length handles - 1) (length handles - 1) are.ascend (omega arith) (omega (arith, some)) in
        few (omega (arith, apart, are.first, are.last, are.least, are.most))
    go (inr none) = few (omega (arith, none))

-- the second is after all handles, or reports how much greater than the lowest one can be
end_reported : (count below end : ℕ) → end ≡ min count (below + 1) → end < count → end ≡ below + 1
end_reported count below end is less = go (cases_lt count (below + 1))
  where
    go : (count < below + 1) ⊎ (below + 1 ≤ count) → end ≡ below + 1
    go (inl more) = absurd (omega (arith, is, less, min-eq_left {n = count} {m = below + 1} (omega (arith, more))))
    go (inr few) = is ∙ min-eq_right {n = below + 1} {m = count} few

-- the handle can stand between them
pub between : (handles : List ℕ) (handle lowest highest from end : ℕ) → AreBounds handles handle lowest highest from end → CanStand handles handle from (end - from)
between handles handle lowest highest from end are =
    let ordered : from ≤ end = in_order handles handle lowest highest from end are in
    record {
      within = omega (arith, are.ends, ordered, min-le_left (length handles) (handle - lowest + 1));
      below = λ i before.
          let apart : slice_index_or handles i 0 + (length handles - 1 - i) ≤ slice_index_or handles (length handles - 1) 0 =
          far_apart handles i (length handles - 1) (length handles - 1 - i) are.ascend (omega (arith, before, are.begins)) (omega (arith, before, are.begins)) in
          omega (arith, apart, before, are.begins, are.last, are.most);
      above = λ i after inside.
          let apart : slice_index_or handles 0 0 + i ≤ slice_index_or handles i 0 = far_apart handles 0 i i are.ascend (omega arith) inside in
          let least : end ≡ handle - lowest + 1 = end_reported (length handles) (handle - lowest) end are.ends (omega (arith, after, inside, ordered)) in
          omega (arith, apart, after, inside, ordered, are.first, are.least, least);
    }
