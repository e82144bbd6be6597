-- Paths and chains: lists of distinct things, each of which leads to the next. A rule of this project.
use Rattle.std.specs.Prelude.{⊤, ◌≡◌, ◌↔◌, ℕ, zero, suc, Bool, false, List, [], ◌∷◌, Option, Some, None, IsTrue, Contains}

-- the things of a list differ from each other
unfoldable pub AreDistinct : {A : Type 0} → List A → Type 0
AreDistinct {A} [] = ⊤
AreDistinct {A} (x ∷ xs) = (Contains xs x → ⊥) × AreDistinct xs

-- each thing of a list but the last leads to the one after it
unfoldable pub Follows : {A : Type 0} → (A → Option A) → List A → Type 0
Follows {A} step [] = ⊤
Follows {A} step (x ∷ []) = ⊤
Follows {A} step (x ∷ y ∷ rest) = (step x ≡ Some y) × Follows step (y ∷ rest)

-- the first thing of a list passes a test
abbrev pub Begins : {A : Type 0} → (A → Bool) → List A → Type 0
Begins {A} test [] = ⊥
Begins {A} test (x ∷ xs) = IsTrue (test x)

-- the last thing of a list passes a test
unfoldable pub Ends : {A : Type 0} → (A → Bool) → List A → Type 0
Ends {A} test [] = ⊥
Ends {A} test (x ∷ []) = IsTrue (test x)
Ends {A} test (x ∷ y ∷ rest) = Ends test (y ∷ rest)

-- the first thing of a list
abbrev pub first_of : {A : Type 0} → List A → Option A
first_of {A} [] = None
first_of {A} (x ∷ xs) = Some x

-- a list of distinct things that begins with x, in which each but the last leads to the next, and whose last is a goal
pub record IsPath {A : Type 0} (step : A → Option A) (goal : A → Bool) (x : A) (path : List A) : Type 0 where
  pub distinct : AreDistinct path
  pub begins : first_of path ≡ Some x
  pub follows : Follows step path
  pub ends : Ends goal path

-- there is a path from x
abbrev pub HasPath : {A : Type 0} → (A → Option A) → (A → Bool) → A → Type 0
HasPath {A} step goal x = (path : List A) × IsPath step goal x path

-- so many steps lead from x to the first goal on its way
unfoldable pub HasRank : {A : Type 0} → (A → Option A) → (A → Bool) → A → ℕ → Type 0
HasRank {A} step goal x zero = IsTrue (goal x)
HasRank {A} step goal x (suc rank) = (goal x ≡ false) × (y : A) × (step x ≡ Some y) × HasRank step goal y rank

-- a list of distinct things that are exactly the members, in which each but the last leads to the next, whose first and whose last pass the tests for them
pub record IsChain {A : Type 0} (step : A → Option A) (member first last : A → Bool) (chain : List A) : Type 0 where
  pub distinct : AreDistinct chain
  pub whole : (x : A) → IsTrue (member x) ↔ Contains chain x
  pub begins : Begins first chain
  pub follows : Follows step chain
  pub ends : Ends last chain

-- there is a chain of the members
abbrev pub HasChain : {A : Type 0} → (A → Option A) → (A → Bool) → (A → Bool) → (A → Bool) → Type 0
HasChain {A} step member first last = (chain : List A) × IsChain step member first last chain
