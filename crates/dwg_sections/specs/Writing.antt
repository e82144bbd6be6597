-- Bytes that are appended to a sink of bits. A rule of this project.
use Rattle.std.specs.Prelude.{ℕ, ◌+◌, ◌*◌, ◌≤◌, List, length}
use Rattle.dwg_base.specs.Bytes.{AreBytes}
use Rattle.dwg_bits.specs.Bits.{bits}
use Rattle.dwg_bits.specs.Sink.{Written, Extends}

-- the sink grew by these bytes, and its spare fell by no more than their bits
pub record Puts (old new : Written) (bytes : List ℕ) : Type 0 where
  pub written : Extends old new (bits bytes)
  pub spare : old.spare ≤ new.spare + 8 * length bytes
  pub small : AreBytes bytes
