-- Lists of bytes.
use Rattle.std.specs.Prelude.{◌≡◌, ℕ, ◌^◌, ◌<◌, List, ◌++◌, length}
use Rattle.std.specs.List.{AllByRecursion}

-- each member is a byte
abbrev pub AreBytes : List ℕ → Type 0
AreBytes bytes = AllByRecursion (λ byte. byte < 2 ^ 8) bytes

-- these letters stand among the others at a place
pub record StandsAt {A : Type 0} (letters : List A) (place : ℕ) (piece : List A) : Type 0 where
  pub before : List A
  pub after : List A
  pub whole : letters ≡ before ++ (piece ++ after)
  pub far : length before ≡ place
