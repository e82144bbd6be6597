-- The slots of applications, or all others, one slot after the other.
use Rattle.std.proofs.Common.{◌≡◌, sym, ap, ◌∙◌, ℕ, zero, suc, Bool, true, false, List, [], ◌∷◌, ◌++◌, drop, Some}
use Rattle.std.specs.Prelude.{flat_map, not}
use Rattle.std.specs.List.{slice_get}
use Rattle.std.proofs.lemmas.Grind.{flat_map-append}
use Rattle.std.proofs.lemmas.List.{append_assoc}
use Rattle.std.proofs.lemmas.List.Elements.{filter-append}
use Rattle.std.proofs.lemmas.Option.{same_Some}
use Rattle.dwg_audit.specs.Findings.{is_application}
use Rattle.dwg_audit.specs.Held.{chosen}
use Rattle.dwg_graph.specs.declared.slot.Slot.{Slot}

-- what is left at a place begins with what stands there
pub drop_at_place : {A : Type 0} (xs : List A) (i : ℕ) (x : A) → slice_get xs i ≡ Some x → drop i xs ≡ x ∷ drop (suc i) xs
drop_at_place {A} [] i x at = absurd (cc at)
drop_at_place {A} (first ∷ more) zero x at = ap (λ (y : A). y ∷ more) (same_Some first x at)
drop_at_place {A} (first ∷ more) (suc i) x at = drop_at_place more i x at

-- what is chosen of a list is what is chosen of its first and of the others
pub chosen_first : (applications : Bool) (slot : Slot) (rest : List Slot) → chosen applications (slot ∷ rest) ≡ chosen applications (slot ∷ []) ++ chosen applications rest
chosen_first true slot rest = filter-append is_application (slot ∷ []) rest
chosen_first false slot rest = filter-append (λ x. not (is_application x)) (slot ∷ []) rest

-- one slot further
pub chosen_further : {B : Type 0} (applications : Bool) (f : Slot → List B) (all : List Slot) (i next : ℕ) (slot : Slot) (before after whole : List B) → slice_get all i ≡ Some slot → next ≡ suc i
    → before ++ flat_map f (chosen applications (drop i all)) ≡ whole → after ≡ before ++ flat_map f (chosen applications (slot ∷ []))
    → after ++ flat_map f (chosen applications (drop next all)) ≡ whole
chosen_further applications f all i next slot before after whole at further is new =
    ap (λ n. after ++ flat_map f (chosen applications (drop n all))) further
    ∙ ap (λ prefix. prefix ++ flat_map f (chosen applications (drop (suc i) all))) new
    ∙ append_assoc before (flat_map f (chosen applications (slot ∷ []))) (flat_map f (chosen applications (drop (suc i) all)))
    ∙ ap (λ rest. before ++ rest)
    (sym (flat_map-append f (chosen applications (slot ∷ [])) (chosen applications (drop (suc i) all)))
    ∙ ap (flat_map f) (sym (chosen_first applications slot (drop (suc i) all)) ∙ ap (chosen applications) (sym (drop_at_place all i slot at))))
    ∙ is
