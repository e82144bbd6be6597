-- What a call does to a device: to its count of faults, to the bytes that it still gives, and to those that it took. A rule of this project.
use Rattle.std.specs.Prelude.{◌≡◌, ℕ, ◌+◌, ◌-◌, ◌^◌, ◌<◌, ◌≤◌, ◌⊎◌, min, List, ◌++◌, Option, Result, MatchResult, OnOk, OnErr}
use Rattle.std.specs.Io.KnownBytes.{Appends, Consumes}
use Rattle.dwg_base.specs.Bytes.{AreBytes}

-- the last value of a count of faults or of calls, at which it stands still
abbrev pub LAST_COUNT : ℕ
LAST_COUNT = 2 ^ 64 - 1

-- the value of a count after one more
abbrev pub next_count : ℕ → ℕ
next_count count = min (count + 1) LAST_COUNT

-- a count rose in a call: it is greater than at the begin of the call, or stands at its last value
abbrev pub Rose : ℕ → ℕ → Type 0
Rose before now = (before < now) ⊎ (now ≡ LAST_COUNT)

-- what a call does to its device's count of faults: it never falls, stays where the call succeeds, rose where it fails, and stands still at its last value
pub record Counts {T E : Type 0} (before now : ℕ) (result : Result T E) : Type 0 where
  pub never_falls : before ≤ now
  pub stands : before ≡ LAST_COUNT → now ≡ LAST_COUNT
  pub ok : OnOk result (now ≡ before)
  pub err : OnErr result (Rose before now)

-- the whole begins with the prefix
abbrev pub IsPrefix : List ℕ → List ℕ → Type 0
IsPrefix prefix whole = (rest : List ℕ) × (whole ≡ prefix ++ rest)

-- known bytes grow by a prefix of the whole
abbrev pub AppendsPrefix : Option (List ℕ) → Option (List ℕ) → List ℕ → Type 0
AppendsPrefix old new whole = (prefix : List ℕ) × IsPrefix prefix whole × Appends old new prefix

-- a call that sends the whole to a sink: all of it at Ok, and a prefix of it at Err
abbrev pub Sends : {T E : Type 0} → Option (List ℕ) → Option (List ℕ) → List ℕ → Result T E → Type 0
Sends old new whole result = MatchResult result (λ _. Appends old new whole) (λ _. AppendsPrefix old new whole)

-- some bytes came from a source, by what it reports before them and after them, and this holds of these bytes
abbrev pub Came : Option (List ℕ) → Option (List ℕ) → (List ℕ → Type 0) → Type 0
Came old new Holds = (came : List ℕ) × Consumes old new came × AreBytes came × Holds came

-- the most bytes that an input may have, and the most that a written file may have
abbrev pub MOST_BYTES : ℕ
MOST_BYTES = 33554432
