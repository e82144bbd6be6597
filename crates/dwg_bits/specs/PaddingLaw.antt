-- What padding does to a list of bits.
use Rattle.std.proofs.Common.{◌≡◌, ◌+◌, ◌%◌, ◌<◌, Bool, List, length}
use Rattle.dwg_bits.specs.Sink.{padding}

-- padding fills a list up to a whole byte, by fewer than eight bits
abbrev pub PaddingFills : Type 0
PaddingFills = (s : List Bool) → ((length s + length (padding s)) % 8 ≡ 0) × (length (padding s) < 8)
