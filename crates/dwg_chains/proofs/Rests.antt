-- What is left of a chain at a place: of the chain of a home it is the part after the members that were seen.
use Rattle.std.proofs.Common.{◌≡◌, ◌↔◌, ◌<◌, ◌⊎◌, ℕ, zero, suc, Bool, true, false, List, [], ◌∷◌, length, get_or, Option, Some, None, refl, sym, ap, ◌∙◌, subst, inl, inr, ⊎_elim, arith}
use Rattle.std.proofs.Math.ListN.{set}
use Rattle.std.proofs.lemmas.Bool.{false≢true}
use Rattle.std.proofs.lemmas.Option.{same_Some, none-some}
use Rattle.std.specs.Prelude.{Contains}
use Rattle.dwg_chains.specs.Paths.{AreDistinct, Follows, Ends, first_of}
use Rattle.dwg_chains.specs.Tables.{marked}
use Rattle.dwg_chains.proofs.Marking.{same_or_other, marked_same, marked_other, marked_still}

-- a list contains its first thing
pub contains_head : {A : Type 0} (x : A) (xs : List A) → Contains (x ∷ xs) x
contains_head x xs = (0, omega arith, refl)

-- a list contains what its rest contains
pub contains_tail : {A : Type 0} (x y : A) (xs : List A) → Contains xs y → Contains (x ∷ xs) y
contains_tail x y xs inside = (suc inside.0, omega (arith, inside.1), inside.2)

-- the empty list contains nothing
pub contains_none : {A : Type 0} (y : A) → Contains [] y → ⊥
contains_none y inside = omega (arith, inside.1)

-- what a list contains at an index is its first thing or in its rest
contains_at : {A : Type 0} (x y : A) (xs : List A) (k : ℕ) → k < length (x ∷ xs) → get_or (x ∷ xs) k y ≡ y → (x ≡ y) ⊎ Contains xs y
contains_at x y xs zero less is = inl is
contains_at x y xs (suc k) less is = inr (k, omega (arith, less), is)

-- what a list contains is its first thing or in its rest
pub contains_cases : {A : Type 0} (x y : A) (xs : List A) → Contains (x ∷ xs) y → (x ≡ y) ⊎ Contains xs y
contains_cases x y xs inside = contains_at x y xs inside.0 inside.1 inside.2

-- what is left of a chain: distinct members that weren't seen, from a place on, each leading to the next, up to the last; and no other member is left
pub record IsRest (step : ℕ → Option ℕ) (member last : ℕ → Bool) (seen : List Bool) (at : ℕ) (rest : List ℕ) : Type 0 where
  pub distinct : AreDistinct rest
  pub begins : first_of rest ≡ Some at
  pub follows : Follows step rest
  pub ends : Ends last rest
  pub fresh : (place : ℕ) → Contains rest place → (member place ≡ true) × (marked seen place ≡ false)
  pub whole : (place : ℕ) → member place ≡ true → (marked seen place ≡ true) ⊎ Contains rest place

-- something is left of a chain
abbrev pub HasRest : (ℕ → Option ℕ) → (ℕ → Bool) → (ℕ → Bool) → List Bool → ℕ → Type 0
HasRest step member last seen at = (rest : List ℕ) × IsRest step member last seen at rest

-- a rest after its first place, which isn't the last
rest_after : (step : ℕ → Option ℕ) (member last : ℕ → Bool) (seen : List Bool) (at next : ℕ) → at < length seen → last at ≡ false → step at ≡ Some next → (rest : List ℕ) → IsRest step member last seen at rest → HasRest step member last (set seen at true) next
unfolding AreDistinct Follows Ends
rest_after step member last seen at next inside more to [] rest = absurd (none-some at rest.begins)
rest_after step member last seen at next inside more to (x ∷ []) rest =
    absurd (false≢true (sym more ∙ ap last (sym (same_Some x at rest.begins)) ∙ rest.ends))
rest_after step member last seen at next inside more to (x ∷ y ∷ zs) rest =
    let same : x ≡ at = same_Some x at rest.begins in (
      y ∷ zs,
      record {
        distinct = rest.distinct.1;
        begins = sym rest.follows.0 ∙ ap step same ∙ to;
        follows = rest.follows.1;
        ends = rest.ends;
        fresh = λ place there.
            let before = rest.fresh place (contains_tail x place (y ∷ zs) there) in
            let apart : place ≡ at → ⊥ = λ e. rest.distinct.0 (subst (λ (n : ℕ). Contains (y ∷ zs) n) (e ∙ sym same) there) in
            (before.0, marked_other seen at place true apart ∙ before.1);
        whole = λ place here. ⊎_elim
            (λ already. inl (marked_still seen at place inside already))
            (λ there. ⊎_elim
            (λ e. inl (subst (λ (n : ℕ). marked (set seen at true) n ≡ true) (sym same ∙ e) (marked_same seen at true inside)))
            (λ after. inr after)
            (contains_cases x place (y ∷ zs) there))
            (rest.whole place here);
      },
    )

-- a rest with a place before it, which wasn't seen
rest_before : (step : ℕ → Option ℕ) (member last : ℕ → Bool) (seen : List Bool) (at next : ℕ) → at < length seen → member at ≡ true → marked seen at ≡ false → step at ≡ Some next → (rest : List ℕ) → IsRest step member last (set seen at true) next rest → HasRest step member last seen at
unfolding AreDistinct Follows Ends
rest_before step member last seen at next inside lives new to [] rest = absurd (none-some next rest.begins)
rest_before step member last seen at next inside lives new to (y ∷ zs) rest =
    let now = marked_same seen at true inside in (
      at ∷ y ∷ zs,
      record {
        distinct = (λ there. false≢true (sym (rest.fresh at there).1 ∙ now), rest.distinct);
        begins = refl;
        follows = (to ∙ sym rest.begins, rest.follows);
        ends = rest.ends;
        fresh = λ place there. ⊎_elim
            (λ e. (subst (λ (n : ℕ). member n ≡ true) e lives, subst (λ (n : ℕ). marked seen n ≡ false) e new))
            (λ after.
            let fresh = rest.fresh place after in
            let apart : place ≡ at → ⊥ = λ e. false≢true (sym fresh.1 ∙ ap (λ (n : ℕ). marked (set seen at true) n) e ∙ now) in
            (fresh.0, sym (marked_other seen at place true apart) ∙ fresh.1))
            (contains_cases at place (y ∷ zs) there);
        whole = λ place here. ⊎_elim
            (λ e. inr (subst (λ (n : ℕ). Contains (at ∷ y ∷ zs) n) (sym e) (contains_head at (y ∷ zs))))
            (λ apart. ⊎_elim
            (λ already. inl (sym (marked_other seen at place true apart) ∙ already))
            (λ after. inr (contains_tail at place (y ∷ zs) after))
            (rest.whole place here))
            (same_or_other place at);
      },
    )

-- what is left at a place that leads on is what is left at the next, once it is seen
pub rest_goes : (step : ℕ → Option ℕ) (member last : ℕ → Bool) (seen : List Bool) (at next : ℕ) → at < length seen → member at ≡ true → marked seen at ≡ false → last at ≡ false → step at ≡ Some next → HasRest step member last seen at ↔ HasRest step member last (set seen at true) next
rest_goes step member last seen at next inside lives new more to = (
  λ rest. rest_after step member last seen at next inside more to rest.0 rest.1,
  λ rest. rest_before step member last seen at next inside lives new to rest.0 rest.1,
)

-- the last thing of a list is in it
ends_in : (last : ℕ → Bool) (xs : List ℕ) → Ends last xs → (x : ℕ) × Contains xs x × (last x ≡ true)
unfolding Ends
ends_in last [] ends = absurd ends
ends_in last (x ∷ []) ends = (x, contains_head x [], ends)
ends_in last (x ∷ y ∷ zs) ends = let further = ends_in last (y ∷ zs) ends in (further.0, contains_tail x further.0 (y ∷ zs) further.1, further.2)

-- nothing is left after the last place
none_after : (last : ℕ → Bool) (at : ℕ) → ((x : ℕ) → last x ≡ true → x ≡ at) → (xs : List ℕ) → AreDistinct (at ∷ xs) → Ends last (at ∷ xs) → (y : ℕ) → Contains xs y → ⊥
unfolding AreDistinct Ends
none_after last at one [] distinct ends y there = contains_none y there
none_after last at one (x ∷ xs) distinct ends y there =
    let further = ends_in last (x ∷ xs) ends in
    distinct.0 (subst (λ (n : ℕ). Contains (x ∷ xs) n) (one further.0 further.2) further.1)

-- if something is left at the last place, all members are seen with it
all_seen : (step : ℕ → Option ℕ) (member last : ℕ → Bool) (seen : List Bool) (at : ℕ) → at < length seen → ((x : ℕ) → last x ≡ true → x ≡ at) → (rest : List ℕ) → IsRest step member last seen at rest → (place : ℕ) → member place ≡ true → marked (set seen at true) place ≡ true
all_seen step member last seen at inside one [] rest place here = absurd (none-some at rest.begins)
all_seen step member last seen at inside one (x ∷ xs) rest place here =
    let same : x ≡ at = same_Some x at rest.begins in
    ⊎_elim
    (λ already. marked_still seen at place inside already)
    (λ there. ⊎_elim
    (λ e. subst (λ (n : ℕ). marked (set seen at true) n ≡ true) (sym same ∙ e) (marked_same seen at true inside))
    (λ after. absurd (none_after last at one xs (subst (λ (n : ℕ). AreDistinct (n ∷ xs)) same rest.distinct) (subst (λ (n : ℕ). Ends last (n ∷ xs)) same rest.ends) place after))
    (contains_cases x place xs there))
    (rest.whole place here)

-- if all members are seen with the last place, it alone is left
last_left : (step : ℕ → Option ℕ) (member last : ℕ → Bool) (seen : List Bool) (at : ℕ) → member at ≡ true → marked seen at ≡ false → last at ≡ true → ((place : ℕ) → member place ≡ true → marked (set seen at true) place ≡ true) → IsRest step member last seen at (at ∷ [])
unfolding AreDistinct Follows Ends
last_left step member last seen at lives new end all = record {
  distinct = (λ there. contains_none at there, tt);
  begins = refl;
  follows = tt;
  ends = end;
  fresh = λ place there. ⊎_elim
      (λ e. (subst (λ (n : ℕ). member n ≡ true) e lives, subst (λ (n : ℕ). marked seen n ≡ false) e new))
      (λ after. absurd (contains_none place after))
      (contains_cases at place [] there);
  whole = λ place here. ⊎_elim
      (λ e. inr (subst (λ (n : ℕ). Contains (at ∷ []) n) (sym e) (contains_head at [])))
      (λ apart. inl (sym (marked_other seen at place true apart) ∙ all place here))
      (same_or_other place at);
}

-- something is left at the last place exactly where all members are seen with it
pub rest_ends : (step : ℕ → Option ℕ) (member last : ℕ → Bool) (seen : List Bool) (at : ℕ) → at < length seen → member at ≡ true → marked seen at ≡ false → last at ≡ true → ((x : ℕ) → last x ≡ true → x ≡ at) → HasRest step member last seen at ↔ ((place : ℕ) → member place ≡ true → marked (set seen at true) place ≡ true)
rest_ends step member last seen at inside lives new end one = (
  λ rest. all_seen step member last seen at inside one rest.0 rest.1,
  λ all. (at ∷ [], last_left step member last seen at lives new end all),
)

-- nothing is left at a place that leads nowhere and isn't the last
pub none_left : (step : ℕ → Option ℕ) (member last : ℕ → Bool) (seen : List Bool) (at : ℕ) → last at ≡ false → step at ≡ None → (rest : List ℕ) → IsRest step member last seen at rest → ⊥
unfolding Follows Ends
none_left step member last seen at more nowhere [] rest = none-some at rest.begins
none_left step member last seen at more nowhere (x ∷ []) rest =
    false≢true (sym more ∙ ap last (sym (same_Some x at rest.begins)) ∙ rest.ends)
none_left step member last seen at more nowhere (x ∷ y ∷ zs) rest =
    none-some y (sym nowhere ∙ ap step (sym (same_Some x at rest.begins)) ∙ rest.follows.0)
