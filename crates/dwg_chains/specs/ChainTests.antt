-- Tests of finitely many things by which a chain of them is found: they distinguish things, and pass few. A rule of this project.
use Rattle.std.proofs.Common.{◌≡◌}
use Rattle.std.specs.Prelude.{◌↔◌, Bool, List, IsTrue, Contains}

-- a test of two things reports which of these are one
abbrev pub Distinguishes : {A : Type 0} → List A → (A → A → Bool) → Type 0
Distinguishes {A} all same = (x y : A) → Contains all x → Contains all y → IsTrue (same x y) ↔ (x ≡ y)

-- what passes a test is one of these
abbrev pub IsAmong : {A : Type 0} → List A → (A → Bool) → Type 0
IsAmong {A} all test = (x : A) → IsTrue (test x) → Contains all x

-- at most one of these passes a test
abbrev pub PassesOnce : {A : Type 0} → List A → (A → Bool) → Type 0
PassesOnce {A} all test = (x y : A) → Contains all x → Contains all y → IsTrue (test x) → IsTrue (test y) → x ≡ y

-- what the tests of a chain must say of all things, so that the chain is found: they distinguish things, members are among them, and they have at most one first and one last
pub record AreChainTests {A : Type 0} (same : A → A → Bool) (all : List A) (member first last : A → Bool) : Type 0 where
  pub apart : Distinguishes all same
  pub among : IsAmong all member
  pub one_first : PassesOnce all first
  pub one_last : PassesOnce all last
