-- Devices in memory: what they hold, and what one call does. A rule of this project.
use Rattle.std.specs.Prelude.{◌≡◌, ℕ, ◌-◌, ◌<◌, min, List, ◌++◌, length, take, drop, Contains, Result, Ok, Err, ◌⊎◌}
use Rattle.dwg_base.specs.Devices.{next_count}

-- a source in memory: the bytes still to come, how many a call gives at the most, the numbers of the calls that fail, and the counts of calls and of faults
pub record Feed : Type 0 where
  pub left : List ℕ
  pub most : ℕ
  pub fails : List ℕ
  pub calls : ℕ
  pub faults : ℕ

-- how many bytes a call gives into a buffer of so many
abbrev pub given_count : Feed → ℕ → ℕ
given_count feed room = min (length feed.left) (min room feed.most)

-- the next call fails: its number, counted from 1, is among those listed
abbrev pub IsFailingRead : Feed → Type 0
IsFailingRead feed = Contains feed.fails (next_count feed.calls)

-- the source after a call
abbrev pub after_read : {E : Type 0} → Feed → Result ℕ E → Feed
after_read feed (Ok n) = record feed { left = drop n feed.left; calls = next_count feed.calls }
after_read feed (Err e) = record feed { calls = next_count feed.calls; faults = next_count feed.faults }

-- a sink in memory: the bytes that it took, how many it holds at the most, how many a call takes at the most, the numbers of the calls that fail, and the counts of calls and of faults
pub record Store : Type 0 where
  pub taken : List ℕ
  pub room : ℕ
  pub most : ℕ
  pub fails : List ℕ
  pub calls : ℕ
  pub faults : ℕ

-- how many bytes of a piece a call takes
abbrev pub taken_count : Store → List ℕ → ℕ
taken_count store piece = min (length piece) (min (store.room - length store.taken) store.most)

-- the next call fails: its number, counted from 1, is among those listed, or the room is full and the piece isn't empty
abbrev pub IsFailingWrite : Store → List ℕ → Type 0
IsFailingWrite store piece =
    Contains store.fails (next_count store.calls) ⊎ ((length store.taken ≡ store.room) × (0 < length piece))

-- the sink after a call
abbrev pub after_write : {E : Type 0} → Store → List ℕ → Result ℕ E → Store
after_write store piece (Ok n) = record store { taken = store.taken ++ take n piece; calls = next_count store.calls }
after_write store piece (Err e) = record store { calls = next_count store.calls; faults = next_count store.faults }
