-- Numbers that things are given, and what must hold of them so that they report of paths and chains. A rule of this project.
use Rattle.std.specs.Prelude.{◌≡◌, ◌<◌, ◌↔◌, ℕ, suc, Bool, List, length, Option, Some, IsTrue, Contains, slice_get}

-- a thing of number 0 is a goal, and one of any other leads to a thing of the number before
pub record FallToGoals {A : Type 0} (step : A → Option A) (goal : A → Bool) (number : A → Option ℕ) : Type 0 where
  pub ends : (x : A) → number x ≡ Some 0 → IsTrue (goal x)
  pub falls : (x : A) (n : ℕ) → number x ≡ Some (suc n) → (y : A) × (step x ≡ Some y) × (number y ≡ Some n)

-- a first is a member of number 0; each member has a number less than their count, leads to a member of the number after, if that is less too, and is a last if it isn't
pub record RiseAlong {A : Type 0} (members : List A) (step : A → Option A) (first last : A → Bool) (number : A → Option ℕ) : Type 0 where
  pub begins : (x : A) × Contains members x × IsTrue (first x) × (number x ≡ Some 0)
  pub small : (x : A) → Contains members x → (n : ℕ) × (number x ≡ Some n) × (n < length members)
  pub rises : (x : A) (n : ℕ) → Contains members x → number x ≡ Some n → suc n < length members → (y : A) × (step x ≡ Some y) × Contains members y × (number y ≡ Some (suc n))
  pub ends : (x : A) (n : ℕ) → Contains members x → number x ≡ Some n → suc n ≡ length members → IsTrue (last x)

-- a test reports which things are one
abbrev pub IsSame : {A : Type 0} → (A → A → Bool) → Type 0
IsSame {A} same = (x y : A) → IsTrue (same x y) ↔ (x ≡ y)

-- a test passes exactly the things of a list
abbrev pub PassesThese : {A : Type 0} → (A → Bool) → List A → Type 0
PassesThese {A} test these = (x : A) → IsTrue (test x) ↔ Contains these x

-- each thing of a list has its place as its number
abbrev pub AreNumberedByPlace : {A : Type 0} → List A → (A → Option ℕ) → Type 0
AreNumberedByPlace {A} things number = (place : ℕ) (x : A) → slice_get things place ≡ Some x → number x ≡ Some place
