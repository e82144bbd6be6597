-- Lists whose elements are written by their numbers. A rule of this project.
use Rattle.std.specs.Prelude.{ℕ, ◌+◌, List, [], ◌∷◌, ◌++◌}

-- what is written of the elements of a list, of which the first has this number
abbrev pub numbered : {A : Type 0} → (ℕ → A → List ℕ) → ℕ → List A → List ℕ
numbered {A} written from [] = []
numbered {A} written from (element ∷ elements) = written from element ++ numbered written (from + 1) elements
