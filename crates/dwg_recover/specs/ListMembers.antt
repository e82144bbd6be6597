-- A member of a list, whatever it lists, and where it stands there. A rule of this project.
use Rattle.std.proofs.Common.{◌≡◌, ℕ, List, [], ◌∷◌, ◌++◌, length}
use Rattle.std.specs.Prelude.{◌⊎◌}

-- one is a member of some
abbrev pub IsOneOf : {A : Type 0} → A → List A → Type 0
IsOneOf {A} one [] = ⊥
IsOneOf {A} one (first ∷ others) = (one ≡ first) ⊎ IsOneOf one others

-- the list in two, the second of which begins with the one
pub record IsSplit {A : Type 0} (one : A) (all : List A) : Type 0 where
  pub before : List A
  pub after : List A
  pub whole : all ≡ before ++ one ∷ after

-- a member of a list at a place, counted from 0
pub record IsAt {A : Type 0} (place : ℕ) (one : A) (all : List A) : Type 0 where
  pub split : IsSplit one all
  pub far : length split.before ≡ place
