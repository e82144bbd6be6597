-- Losses of the things of one list: each thing that is lost is one, with its number.
use Rattle.std.proofs.Common.{◌≡◌, refl, sym, ◌∙◌, ap, ap₂, subst, ℕ, ◌+◌, ◌<◌, ◌≤◌, Bool, true, false, List, [], ◌∷◌, ◌++◌, map, inl, inr, arith}
use Rattle.std.specs.Prelude.{◌⊎◌, ◌↔◌, if◌then◌else◌, AllPairs}
use Rattle.dwg_recover.specs.declared.loss.Loss.{Loss}
use Rattle.dwg_recover.specs.ListMembers.{IsAt, IsOneOf}
use Rattle.dwg_recover.proofs.ListMembers.{at_cases, at_first, at_next, none_at}
use Rattle.dwg_recover.specs.ReportedLosses.{NumberedLoss, part_of, IsLossAt, StandsBefore, losses_in}
use Rattle.dwg_recover.proofs.ListOrders.{pairs_none, pairs_more}

-- a loss with its number
abbrev pub numbered : ℕ → Loss → NumberedLoss
numbered number loss = record { number = number; loss = loss }

-- the losses of things, of which the first has this number
unfoldable pub picks : {A : Type 0} → (ℕ → A → Bool) → (ℕ → A → Loss) → ℕ → List A → List NumberedLoss
picks lost loss number [] = []
picks lost loss number (x ∷ xs) = if lost number x then numbered number (loss number x) ∷ picks lost loss (number + 1) xs else picks lost loss (number + 1) xs

-- a loss is that of one of the things
pub record IsPicked {A : Type 0} (lost : ℕ → A → Bool) (loss : ℕ → A → Loss) (number : ℕ) (things : List A) (one : NumberedLoss) : Type 0 where
  pub index : ℕ
  pub thing : A
  pub at : IsAt index thing things
  pub count : one.number ≡ number + index
  pub passes : lost one.number thing ≡ true
  pub same : one.loss ≡ loss one.number thing

-- of one of those after the first
picked_later : {A : Type 0} (lost : ℕ → A → Bool) (loss : ℕ → A → Loss) (number : ℕ) (x : A) (xs : List A) (one : NumberedLoss) → IsPicked lost loss (number + 1) xs one → IsPicked lost loss number (x ∷ xs) one
picked_later lost loss number x xs one rest = record {
  index = rest.index + 1;
  thing = rest.thing;
  at = at_next rest.index rest.thing x xs rest.at;
  count = omega (arith, rest.count);
  passes = rest.passes;
  same = rest.same;
}

-- so is each
pub picked : {A : Type 0} (lost : ℕ → A → Bool) (loss : ℕ → A → Loss) (number : ℕ) (things : List A) (one : NumberedLoss) → IsOneOf one (picks lost loss number things) → IsPicked lost loss number things one
unfolding picks
picked lost loss number [] one is = absurd is
picked lost loss number (x ∷ xs) one is = of_test (lost number x) refl is (λ after. picked lost loss (number + 1) xs one after)
  where
    of_test : (passes : Bool) → lost number x ≡ passes → IsOneOf one (if passes then numbered number (loss number x) ∷ picks lost loss (number + 1) xs else picks lost loss (number + 1) xs)
        → (IsOneOf one (picks lost loss (number + 1) xs) → IsPicked lost loss (number + 1) xs one) → IsPicked lost loss number (x ∷ xs) one
    of_test true known (inl same) rest =
        let own : one.number ≡ number = ap (λ (l : NumberedLoss). l.number) same in record {
          index = 0;
          thing = x;
          at = at_first x xs;
          count = omega (arith, own);
          passes = ap (λ n. lost n x) own ∙ known;
          same = ap (λ (l : NumberedLoss). l.loss) same ∙ sym (ap (λ n. loss n x) own);
        }
    of_test true known (inr after) rest = picked_later lost loss number x xs one (rest after)
    of_test false known after rest = picked_later lost loss number x xs one (rest after)

-- and each such is among them
pub in_picks : {A : Type 0} (lost : ℕ → A → Bool) (loss : ℕ → A → Loss) (number : ℕ) (things : List A) (one : NumberedLoss) → IsPicked lost loss number things one → IsOneOf one (picks lost loss number things)
unfolding picks
in_picks lost loss number [] one is = absurd (none_at is.index is.thing is.at)
in_picks {A} lost loss number (x ∷ xs) one is = of_test (lost number x) refl (at_cases is.index is.thing x xs is.at) (λ rest. in_picks lost loss (number + 1) xs one rest)
  where
    here : is.index ≡ 0 → one.number ≡ number
    here first = omega (arith, is.count, first)

    later : (next : ℕ) → is.index ≡ next + 1 → IsAt next is.thing xs → IsPicked lost loss (number + 1) xs one
    later next after at = record { index = next; thing = is.thing; at = at; count = omega (arith, is.count, after); passes = is.passes; same = is.same }

    of_test : (passes : Bool) → lost number x ≡ passes → ((is.index ≡ 0) × (is.thing ≡ x)) ⊎ ((next : ℕ) × (is.index ≡ next + 1) × IsAt next is.thing xs)
        → (IsPicked lost loss (number + 1) xs one → IsOneOf one (picks lost loss (number + 1) xs)) → IsOneOf one (if passes then numbered number (loss number x) ∷ picks lost loss (number + 1) xs else picks lost loss (number + 1) xs)
    of_test true known (inl (first, same)) rest = inl (ap₂ (λ (n : ℕ) (l : Loss). numbered n l) (here first) (is.same ∙ ap₂ loss (here first) same))
    of_test true known (inr (next, after, at)) rest = inr (rest (later next after at))
    of_test false known (inl (first, same)) rest = let both : false ≡ true = sym known ∙ sym (ap₂ lost (here first) same) ∙ is.passes in absurd cc
    of_test false known (inr (next, after, at)) rest = rest (later next after at)

-- the losses of one part stand in order
pub picks_ordered : {A : Type 0} (lost : ℕ → A → Bool) (loss : ℕ → A → Loss) (part : ℕ) → ((n : ℕ) (x : A) → part_of (loss n x) ≡ part) → (number : ℕ) (things : List A) → AllPairs StandsBefore (picks lost loss number things)
unfolding picks
picks_ordered lost loss part own number [] = pairs_none StandsBefore
picks_ordered lost loss part own number (x ∷ xs) = of_test (lost number x) (picks_ordered lost loss part own (number + 1) xs)
  where
    of_test : (passes : Bool) → AllPairs StandsBefore (picks lost loss (number + 1) xs) → AllPairs StandsBefore (if passes then numbered number (loss number x) ∷ picks lost loss (number + 1) xs else picks lost loss (number + 1) xs)
    of_test true rest =
        pairs_more StandsBefore (numbered number (loss number x)) (picks lost loss (number + 1) xs)
        (λ one inside.
        let after = picked lost loss (number + 1) xs one inside in
        inr (own number x ∙ sym (ap part_of after.same ∙ own one.number after.thing), omega (arith, after.count)))
        rest
    of_test false rest = rest

-- what is reported of things, by their numbers
pub record AreOfThings {A : Type 0} (lost : ℕ → A → Bool) (loss : ℕ → A → Loss) (of_all : ℕ → List A → List Loss) : Type 0 where
  pub none : (number : ℕ) → of_all number [] ≡ []
  pub more : (number : ℕ) (x : A) (xs : List A) → of_all number (x ∷ xs) ≡ (if lost number x then loss number x ∷ of_all (number + 1) xs else of_all (number + 1) xs)

-- is what these losses are
pub picks_report : {A : Type 0} (lost : ℕ → A → Bool) (loss : ℕ → A → Loss) (of_all : ℕ → List A → List Loss) → AreOfThings lost loss of_all → (number : ℕ) (things : List A) → of_all number things ≡ losses_in (picks lost loss number things)
unfolding picks
picks_report lost loss of_all are number [] = are.none number
picks_report lost loss of_all are number (x ∷ xs) = are.more number x xs ∙ of_test (lost number x) (picks_report lost loss of_all are (number + 1) xs)
  where
    of_test : (passes : Bool) → of_all (number + 1) xs ≡ losses_in (picks lost loss (number + 1) xs) → (if passes then loss number x ∷ of_all (number + 1) xs else of_all (number + 1) xs)
        ≡ losses_in (if passes then numbered number (loss number x) ∷ picks lost loss (number + 1) xs else picks lost loss (number + 1) xs)
    of_test true rest = ap (λ (those : List Loss). loss number x ∷ those) rest
    of_test false rest = rest

-- all losses of one part
pub record IsPart (bytes : List ℕ) (part : ℕ) (list : List NumberedLoss) : Type 0 where
  pub own : (one : NumberedLoss) → IsOneOf one list → (part_of one.loss ≡ part) × IsLossAt bytes one.number one.loss
  pub all : (one : NumberedLoss) → part_of one.loss ≡ part → IsLossAt bytes one.number one.loss → IsOneOf one list
  pub ordered : AllPairs StandsBefore list

-- what a loss of this part is of
pub record IsOfThing {A : Type 0} (lost : ℕ → A → Bool) (loss : ℕ → A → Loss) (things : List A) (one : NumberedLoss) : Type 0 where
  pub thing : A
  pub at : IsAt one.number thing things
  pub passes : lost one.number thing ≡ true
  pub same : one.loss ≡ loss one.number thing

-- the losses of things are those of a part, where its losses are just those of the things that are lost
pub part_of_things : {A : Type 0} (bytes : List ℕ) (part : ℕ) (lost : ℕ → A → Bool) (loss : ℕ → A → Loss) (things : List A) → ((n : ℕ) (x : A) → part_of (loss n x) ≡ part)
    → ((n : ℕ) (x : A) → IsAt n x things → lost n x ≡ true → IsLossAt bytes n (loss n x))
    → ((one : NumberedLoss) → part_of one.loss ≡ part → IsLossAt bytes one.number one.loss → IsOfThing lost loss things one)
    → IsPart bytes part (picks lost loss 0 things)
part_of_things {A} bytes part lost loss things own to from = record {
  own = λ one inside.
      let is = picked lost loss 0 things one inside in
      let number : is.index ≡ one.number = omega (arith, is.count) in (
        ap part_of is.same ∙ own one.number is.thing,
        subst (IsLossAt bytes one.number) (sym is.same) (to one.number is.thing (subst (λ (n : ℕ). IsAt n is.thing things) number is.at) is.passes),
      );
  all = λ one of_part is.
      let of_thing = from one of_part is in
      in_picks lost loss 0 things one (record { index = one.number; thing = of_thing.thing; at = of_thing.at; count = omega arith; passes = of_thing.passes; same = of_thing.same });
  ordered = picks_ordered lost loss part own 0 things;
}
