-- What a sink of bits holds, and how it grows. A rule of this project.
use Rattle.std.specs.Prelude.{◌≡◌, ℕ, ◌+◌, ◌-◌, ◌%◌, ◌≤◌, Bool, false, List, ◌++◌, length, replicate}

-- the bits written, and for how many more there is room
pub record Written : Type 0 where
  pub written : List Bool
  pub spare : ℕ

-- the sink grew by these bits, and its spare fell by no more than their count
pub record Extends (old new : Written) (more : List Bool) : Type 0 where
  pub bits : new.written ≡ old.written ++ more
  pub spare : old.spare ≤ new.spare + length more

-- how many bits are missing to the next whole byte
abbrev pub missing_bits : ℕ → ℕ
missing_bits count = (8 - count % 8) % 8

-- the zero bits that fill a list up to a whole byte
abbrev pub padding : List Bool → List Bool
padding bits = replicate (missing_bits (length bits)) false
