-- Flags: bits of a number that are given by their weight (Open Design Specification, "TEXT" and "LWPOLYLINE").
use Rattle.std.specs.Prelude.{ℕ, ◌/◌, ◌%◌, ◌==◌, Bool}

-- the bit of this worth is set
abbrev pub has : ℕ → ℕ → Bool
has flags weight = flags / weight % 2 == 1
