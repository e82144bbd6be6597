-- Objects whose handles do not fall, reported along them.
use Rattle.std.proofs.Common.{◌≡◌, refl, ap, ◌∙◌, ℕ, ◌+◌, ◌-◌, ◌<◌, ◌≤◌, List, get_or, inl, inr, arith}
use Rattle.std.specs.Prelude.{◌⊎◌}
use Rattle.std.proofs.lemmas.Bool.{cases_lt}
use Rattle.dwg_object.specs.declared.object.Object.{Object}
use Rattle.dwg_object.specs.Objects.{value_of, handle_of}

-- the handle of an object in hand
abbrev own : Object → ℕ
own object = handle_of (value_of object)

-- of the first of a list the handles do not fall, and none is above the last of them, which is 0 where there are none
pub record AscendTo (objects : List Object) (count last : ℕ) : Type 0 where
  pub ascend : (i j : ℕ) (d : Object) → i ≤ j → j < count → own (get_or objects i d) ≤ own (get_or objects j d)
  pub most : (i : ℕ) (d : Object) → i < count → own (get_or objects i d) ≤ last
  pub last_of_none : count ≡ 0 → last ≡ 0
  pub last_is : (d : Object) → 0 < count → own (get_or objects (count - 1) d) ≡ last

-- none of them
pub none_ascend : (objects : List Object) → AscendTo objects 0 0
none_ascend objects =
    record { ascend = λ i j d before within. absurd (omega arith); most = λ i d within. absurd (omega arith); last_of_none = λ none. refl; last_is = λ d some. absurd (omega arith) }

-- one more, which is not below the last
pub more_ascend : (objects : List Object) (count last handle : ℕ) → ((d : Object) → own (get_or objects count d) ≡ handle) → last ≤ handle → AscendTo objects count last → AscendTo objects (count + 1) handle
more_ascend objects count last handle here above so_far = record {
  ascend = λ i j d before within. of_last i j d before within (cases_lt j count);
  most = λ i d within. most_of i d (cases_lt i count) within;
  last_of_none = λ none. absurd (omega (arith, none));
  last_is = λ d some. let back : count + 1 - 1 ≡ count = omega arith in ap (λ k. own (get_or objects k d)) back ∙ here d;
}
  where
    most_of : (i : ℕ) (d : Object) → (i < count) ⊎ (count ≤ i) → i < count + 1 → own (get_or objects i d) ≤ handle
    most_of i d (inl less) within = omega (arith, so_far.most i d less)
    most_of i d (inr more) within = let last_is : i ≡ count = omega arith in omega (arith, ap (λ k. own (get_or objects k d)) last_is ∙ here d)

    of_last : (i j : ℕ) (d : Object) → i ≤ j → j < count + 1 → (j < count) ⊎ (count ≤ j) → own (get_or objects i d) ≤ own (get_or objects j d)
    of_last i j d before within (inl less) = so_far.ascend i j d before less
    of_last i j d before within (inr more) =
        let last_is : j ≡ count = omega arith in
        omega (arith, ap (λ k. own (get_or objects k d)) last_is ∙ here d, most_of i d (cases_lt i count) (omega arith))
