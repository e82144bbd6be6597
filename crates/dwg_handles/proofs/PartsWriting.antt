-- Writing a code and a number after it.
use Rattle.std.proofs.Common.{◌≡◌, ℕ, ◌+◌, ◌*◌, ◌++◌, length, arith}
use Rattle.std.proofs.lemmas.List.{length-append}
use Rattle.dwg_bits.specs.Bits.{low_bits}
use Rattle.dwg_bits.proofs.BitLaws.{length_of_low_bits}
use Rattle.dwg_grammar.specs.ReferenceCodes.{byte_count, counted_number}

-- a code and a number after it have so many bits
pub written_length : (code number : ℕ) → length (low_bits 4 code ++ counted_number.short number) ≡ 8 + 8 * byte_count number
written_length code number =
    let count : ℕ = byte_count number in
    omega (
      arith,
      length-append (low_bits 4 code) (low_bits 4 count ++ low_bits (8 * count) number),
      length-append (low_bits 4 count) (low_bits (8 * count) number),
      length_of_low_bits 4 code,
      length_of_low_bits 4 count,
      length_of_low_bits (8 * count) number,
    )
