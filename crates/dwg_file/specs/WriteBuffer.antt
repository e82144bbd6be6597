-- Bytes on their way to a sink, of which some wait to go out together. A rule of this project.
use Rattle.std.specs.Prelude.{◌≡◌, ℕ, List, ◌++◌, Option, Result, MatchResult}
use Rattle.std.specs.Io.KnownBytes.{Appends}
use Rattle.dwg_base.specs.Devices.{AppendsPrefix}

-- how many bytes go out together where bytes wait
abbrev pub LEAST_PIECE : ℕ
LEAST_PIECE = 4096

-- of these bytes a sink took all but those that wait
pub record Reaches (old new : Option (List ℕ)) (bytes waiting : List ℕ) : Type 0 where
  pub sent : List ℕ
  pub taken : Appends old new sent
  pub whole : bytes ≡ sent ++ waiting

-- these bytes are written whole after those that waited: the sink took both but for what waits then
abbrev pub WritesWhole : Option (List ℕ) → Option (List ℕ) → List ℕ → List ℕ → List ℕ → Type 0
WritesWhole old new waited waiting bytes = Reaches old new (waited ++ bytes) waiting

-- they are cut off: the sink took a prefix of both
abbrev pub WritesPrefix : Option (List ℕ) → Option (List ℕ) → List ℕ → List ℕ → Type 0
WritesPrefix old new waited bytes = AppendsPrefix old new (waited ++ bytes)

-- a call that writes bytes: they are written whole at Ok, and cut off at Err
abbrev pub Writes : {T E : Type 0} → Option (List ℕ) → Option (List ℕ) → List ℕ → List ℕ → List ℕ → Result T E → Type 0
Writes old new waited waiting bytes result = MatchResult result (λ _. WritesWhole old new waited waiting bytes) (λ _. WritesPrefix old new waited bytes)
