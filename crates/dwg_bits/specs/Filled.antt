-- How bytes hold a list of bits that grows: the bits, and zero bits up to a whole byte. A rule of this project.
use Rattle.std.specs.Prelude.{◌≡◌, ℕ, ◌+◌, ◌-◌, ◌*◌, ◌^◌, Bool, false, List, ◌++◌, length, replicate, min}
use Rattle.dwg_bits.specs.Bits.{bits}
use Rattle.dwg_bits.specs.Cursor.{bits_between}
use Rattle.dwg_bits.specs.Sink.{missing_bits}

-- for how many bits a sink has room in so many bytes: the count of its bits has 64 bits
abbrev pub room_of : ℕ → ℕ
room_of bytes = min (8 * bytes) (2 ^ 64 - 1)

-- the bytes are so many bits, filled up to a whole byte by zero bits
pub record AreFilled (bytes : List ℕ) (count : ℕ) : Type 0 where
  pub whole : count + missing_bits count ≡ 8 * length bytes
  pub zeros : bits bytes ≡ bits_between bytes 0 count ++ replicate (missing_bits count) false

-- new bytes are the bits of the old ones and more, filled up
pub record HoldsMore (old new : List ℕ) (count : ℕ) (more : List Bool) : Type 0 where
  pub bits : bits_between new 0 (count + length more) ≡ bits_between old 0 count ++ more
  pub filled : AreFilled new (count + length more)
