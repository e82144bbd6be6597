-- What holds of all items of a list holds of each. Cited by dwg_show and dwg_audit.
use Rattle.std.proofs.Common.{◌≡◌, subst, ℕ, zero, suc, List, [], ◌∷◌, Some}
use Rattle.std.specs.List.{AllByRecursion, slice_get}
use Rattle.std.proofs.lemmas.Option.{same_Some}

-- of the one at a place
pub one_of_all : {A : Type 0} (Holds : A → Type 0) (items : List A) (place : ℕ) (one : A) → AllByRecursion Holds items → slice_get items place ≡ Some one → Holds one
one_of_all Holds [] place one all at = absurd (cc at)
one_of_all Holds (first ∷ more) zero one all at = subst Holds (same_Some first one at) all.0
one_of_all Holds (first ∷ more) (suc place) one all at = one_of_all Holds more place one all.1 at
