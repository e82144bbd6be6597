-- The first item of a number in a list whose items have numbers. A rule of this project.
use Rattle.std.specs.Prelude.{◌≡◌, ◌≢◌, ℕ, List, ◌∷◌, ◌++◌}
use Rattle.std.specs.List.{AllByRecursion}

-- no item has the number
abbrev pub HaveOther : {A : Type 0} → (A → ℕ) → ℕ → List A → Type 0
HaveOther number_of number items = AllByRecursion (λ item. number_of item ≢ number) items

-- an item has the number, and none of those before it has
pub record IsFirstOf {A : Type 0} (number_of : A → ℕ) (items : List A) (number : ℕ) (item : A) (before : List A) : Type 0 where
  pub after : List A
  pub whole : items ≡ before ++ item ∷ after
  pub has : number_of item ≡ number
  pub others : HaveOther number_of number before
