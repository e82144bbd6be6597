-- Steps and tests over the places of a list that say what steps and tests over the things there say. A rule of this project.
use Rattle.std.proofs.Common.{◌≡◌}
use Rattle.std.specs.Prelude.{ℕ, ◌<◌, Bool, List, length, Option, Some, None, slice_get, IsTrue}
use Rattle.dwg_chains.specs.Paths.{AreDistinct}
use Rattle.dwg_chains.specs.ChainTests.{IsAmong}

-- a step over places says where the things there lead
pub record IsSeen {B : Type 0} (all : List B) (step_place : ℕ → Option ℕ) (step_thing : B → Option B) : Type 0 where
  pub goes_on : (i : ℕ) (x : B) (j : ℕ) → slice_get all i ≡ Some x → step_place i ≡ Some j → (y : B) × (slice_get all j ≡ Some y) × (step_thing x ≡ Some y)
  pub stops : (i : ℕ) (x : B) → slice_get all i ≡ Some x → step_place i ≡ None → step_thing x ≡ None

-- a test of places says what that of the things there says
abbrev pub TestsAgree : {B : Type 0} → List B → (ℕ → Bool) → (B → Bool) → Type 0
TestsAgree {B} all test_place test_thing = (i : ℕ) (x : B) → slice_get all i ≡ Some x → test_place i ≡ test_thing x

-- what the steps and tests over places must say of those over distinct things, so that chains over both are the same
pub record AreChainsSeen {B : Type 0} (all : List B) (step_place : ℕ → Option ℕ) (step_thing : B → Option B) (member_place first_place last_place : ℕ → Bool) (member_thing first_thing last_thing : B → Bool) : Type 0 where
  pub distinct : AreDistinct all
  pub within : (i : ℕ) → IsTrue (member_place i) → i < length all
  pub among : IsAmong all member_thing
  pub steps : IsSeen all step_place step_thing
  pub members : TestsAgree all member_place member_thing
  pub firsts : TestsAgree all first_place first_thing
  pub lasts : TestsAgree all last_place last_thing
