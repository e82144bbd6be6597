-- Padding adds as many bits as are missing, so that whole bytes are there.
use Rattle.std.proofs.Common.{◌≡◌, ◌+◌, ◌%◌, ◌<◌, Bool, List, length, arith}
use Rattle.std.proofs.lemmas.List.{length-replicate}
use Rattle.std.specs.Prelude.{false}
use Rattle.dwg_bits.specs.Sink.{padding, missing_bits}

-- as many bits as are missing
length_padding : (s : List Bool) → length (padding s) ≡ missing_bits (length s)
length_padding s = length-replicate (missing_bits (length s)) false

-- padding does so
pub padding_fills : (s : List Bool) → ((length s + length (padding s)) % 8 ≡ 0) × (length (padding s) < 8)
padding_fills s = (omega (arith, length_padding s), omega (arith, length_padding s))
