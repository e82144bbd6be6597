-- Walks along chains: what the marks say after each turn.
use Rattle.std.proofs.Common.{◌≡◌, ◌↔◌, ◌+◌, ◌<◌, ◌≤◌, ℕ, zero, suc, Bool, true, false, List, [], ◌∷◌, length, Option, Some, None, refl, sym, ap, ◌∙◌, subst, ⊎_elim, arith}
use Rattle.std.proofs.Math.ListN.{set}
use Rattle.std.proofs.lemmas.Bool.{false≢true, cases_Bool}
use Rattle.std.proofs.lemmas.Bool.Decides.{eqb_tells}
use Rattle.std.proofs.lemmas.List.{length-set}
use Rattle.std.proofs.lemmas.Option.{same_Some}
use Rattle.dwg_chains.specs.declared.tables.ChainEnds.{ChainEnds}
use Rattle.dwg_chains.specs.Tables.{leads, marked, is_at, lives_at, ends_at, HasChainAt}
use Rattle.dwg_chains.specs.ChainMarks.{IsJudged}
use Rattle.dwg_chains.proofs.Marking.{same_or_other, marked_same, marked_other}
use Rattle.dwg_chains.proofs.Rests.{HasRest, rest_goes, rest_ends, none_left}

-- what is at a place is that place
pub at_is : (at : Option ℕ) (x : ℕ) → is_at at x ≡ true → at ≡ Some x
at_is None x here = absurd (false≢true here)
at_is (Some y) x here = ⊎_elim (λ same. ap (λ (n : ℕ). Some n) same.1) (λ other. absurd (false≢true (sym other.0 ∙ here))) (eqb_tells y x)

-- one place at most is there
pub at_one : (at : Option ℕ) (x y : ℕ) → is_at at x ≡ true → is_at at y ≡ true → x ≡ y
at_one at x y here there = same_Some x y (sym (at_is at x here) ∙ at_is at y there)

-- a member is a place of the table
pub lives_within : (homes : List (Option ℕ)) (home place : ℕ) → lives_at homes home place ≡ true → place < length homes
lives_within [] home place lives = absurd (false≢true lives)
lives_within (x ∷ xs) home zero lives = omega arith
lives_within (x ∷ xs) home (suc place) lives = omega (arith, lives_within xs home place lives)

-- a place is a member of one home
pub lives_apart : (homes : List (Option ℕ)) (home other place : ℕ) → (home ≡ other → ⊥) → lives_at homes other place ≡ true → lives_at homes home place ≡ false
lives_apart homes home other place apart lives = ⊎_elim
    (λ here. absurd (apart (same_Some home other (sym (at_is (leads homes place) home here) ∙ at_is (leads homes place) other lives))))
    (λ away. away)
    (cases_Bool (lives_at homes home place))

-- a walk along the members of a home: only members were marked since it began, and a chain is what is left at the present place
pub record IsFollowed (homes next : List (Option ℕ)) (home : ℕ) (ends : ChainEnds) (start seen : List Bool) (at : ℕ) : Type 0 where
  pub places : length seen ≡ length homes
  pub others : (place : ℕ) → lives_at homes home place ≡ false → marked seen place ≡ marked start place
  pub left : HasChainAt homes next home (Some ends) ↔ HasRest (leads next) (lives_at homes home) (is_at ends.last) seen at

-- the places that aren't members keep their marks
pub follow_others : (homes next : List (Option ℕ)) (home : ℕ) (ends : ChainEnds) (start seen after : List Bool) (at : ℕ) → lives_at homes home at ≡ true → after ≡ set seen at true → IsFollowed homes next home ends start seen at → (place : ℕ) → lives_at homes home place ≡ false → marked after place ≡ marked start place
follow_others homes next home ends start seen after at lives is walk place away =
    let apart : place ≡ at → ⊥ = λ e. false≢true (sym away ∙ ap (lives_at homes home) e ∙ lives) in
    ap (λ (marks : List Bool). marked marks place) is ∙ marked_other seen at place true apart ∙ walk.others place away

-- a walk goes on
pub follow_goes : (homes next : List (Option ℕ)) (home : ℕ) (ends : ChainEnds) (start seen after : List Bool) (at further : ℕ) → (lives_at homes home at ≡ true) × (marked seen at ≡ false) → is_at ends.last at ≡ false → leads next at ≡ Some further → after ≡ set seen at true → IsFollowed homes next home ends start seen at → IsFollowed homes next home ends start after further
follow_goes homes next home ends start seen after at further new more to is walk =
    let inside : at < length seen = omega (arith, lives_within homes home at new.0, walk.places) in
    let goes = rest_goes (leads next) (lives_at homes home) (is_at ends.last) seen at further inside new.0 new.1 more to in
    let turn : IsFollowed homes next home ends start (set seen at true) further = record {
      places = length-set seen at true ∙ walk.places;
      others = follow_others homes next home ends start seen (set seen at true) at new.0 refl walk;
      left = (λ chain. goes.0 (walk.left.0 chain), λ rest. walk.left.1 (goes.1 rest));
    } in
    subst (λ (marks : List Bool). IsFollowed homes next home ends start marks further) (sym is) turn

-- a walk comes to the last place
pub follow_ends : (homes next : List (Option ℕ)) (home : ℕ) (ends : ChainEnds) (start seen after : List Bool) (at : ℕ) → (lives_at homes home at ≡ true) × (marked seen at ≡ false) → is_at ends.last at ≡ true → after ≡ set seen at true → IsFollowed homes next home ends start seen at → IsJudged homes next after home (Some ends) true
follow_ends homes next home ends start seen after at new end is walk =
    let inside : at < length seen = omega (arith, lives_within homes home at new.0, walk.places) in
    let over = rest_ends (leads next) (lives_at homes home) (is_at ends.last) seen at inside new.0 new.1 end (λ x here. at_one ends.last x at here end) in
    let judged : IsJudged homes next (set seen at true) home (Some ends) true =
    (λ chain. (refl, over.0 (walk.left.0 chain)), λ both. walk.left.1 (over.1 both.1)) in
    subst (λ (marks : List Bool). IsJudged homes next marks home (Some ends) true) (sym is) judged

-- a walk leads nowhere
pub follow_nowhere : (homes next : List (Option ℕ)) (home : ℕ) (ends : ChainEnds) (start seen after : List Bool) (at : ℕ) → is_at ends.last at ≡ false → leads next at ≡ None → IsFollowed homes next home ends start seen at → IsJudged homes next after home (Some ends) false
follow_nowhere homes next home ends start seen after at more nowhere walk = (
  λ chain.
      let rest = walk.left.0 chain in
      absurd (none_left (leads next) (lives_at homes home) (is_at ends.last) seen at more nowhere rest.0 rest.1),
  λ both. absurd (false≢true both.0),
)

-- the homes so far are judged, and no member of another is seen
pub record AreJudged (homes next : List (Option ℕ)) (ends : List (Option ChainEnds)) (seen verdicts : List Bool) (count : ℕ) : Type 0 where
  pub seen_places : length seen ≡ length homes
  pub verdict_places : length verdicts ≡ length homes
  pub judged : (home : ℕ) → home < count → IsJudged homes next seen home (ends_at ends home) (marked verdicts home)
  pub unseen : (home place : ℕ) → count ≤ home → lives_at homes home place ≡ true → marked seen place ≡ false

-- a home that was judged stays so where its members keep their marks
judged_still : (homes next : List (Option ℕ)) (seen after : List Bool) (home : ℕ) (ends : Option ChainEnds) (verdict : Bool) → ((place : ℕ) → lives_at homes home place ≡ true → marked after place ≡ marked seen place) → IsJudged homes next seen home ends verdict → IsJudged homes next after home ends verdict
judged_still homes next seen after home ends verdict same judged = (
  λ chain. let both = judged.0 chain in (both.0, λ place lives. same place lives ∙ both.1 place lives),
  λ both. judged.1 (both.0, λ place lives. sym (same place lives) ∙ both.1 place lives),
)

-- one home more is judged
pub judged_more : (homes next : List (Option ℕ)) (ends : List (Option ChainEnds)) (seen seen_after verdicts verdicts_after : List Bool) (count : ℕ) (verdict : Bool) → count < length homes → length seen_after ≡ length seen → ((place : ℕ) → lives_at homes count place ≡ false → marked seen_after place ≡ marked seen place) → IsJudged homes next seen_after count (ends_at ends count) verdict → verdicts_after ≡ set verdicts count verdict → AreJudged homes next ends seen verdicts count → AreJudged homes next ends seen_after verdicts_after (count + 1)
judged_more homes next ends seen seen_after verdicts verdicts_after count verdict inside places others here is before =
    let same : (home place : ℕ) → (home ≡ count → ⊥) → lives_at homes home place ≡ true → marked seen_after place ≡ marked seen place =
    λ home place apart lives. others place (lives_apart homes count home place (λ e. apart (sym e)) lives) in
    let more : AreJudged homes next ends seen_after (set verdicts count verdict) (count + 1) = record {
      seen_places = places ∙ before.seen_places;
      verdict_places = length-set verdicts count verdict ∙ before.verdict_places;
      judged = λ home less. ⊎_elim
          (λ e. subst (λ (n : ℕ). IsJudged homes next seen_after n (ends_at ends n) (marked (set verdicts count verdict) n)) (sym e)
          (subst (λ (b : Bool). IsJudged homes next seen_after count (ends_at ends count) b) (sym (marked_same verdicts count verdict (omega (arith, inside, before.verdict_places)))) here))
          (λ apart. subst (λ (b : Bool). IsJudged homes next seen_after home (ends_at ends home) b) (sym (marked_other verdicts count home verdict apart))
          (judged_still homes next seen seen_after home (ends_at ends home) (marked verdicts home) (λ place lives. same home place apart lives) (before.judged home (omega (arith, less, apart)))))
          (same_or_other home count);
      unseen = λ home place above lives. same home place (λ e. omega (arith, e, above)) lives ∙ before.unseen home place (omega (arith, above)) lives;
    } in
    subst (λ (marks : List Bool). AreJudged homes next ends seen_after marks (count + 1)) (sym is) more
