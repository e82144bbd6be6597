use Rattle.dwg_bits.proofs.BitLaws.{num_of_low_bits, low_bits_of_num, num_fits, length_of_low_bits, length_of_bits, bits_joined, bits_same, low_bits_split, num_joined, length_of_bits_between, bits_between_joined}
use Rattle.dwg_bits.proofs.PaddingLaw.{padding_fills}
use Rattle.dwg_bits.proofs.laws.bit_laws.Goals as goal

pub returns : goal.returns
returns c =
    record {
      spelled = num_of_low_bits;
      reported = low_bits_of_num;
      fits = num_fits;
      counted = length_of_low_bits;
      eight = length_of_bits;
      joined = bits_joined;
      bytes_reported = bits_same;
      split = low_bits_split;
      numbers_joined = num_joined;
      between_counted = length_of_bits_between;
      between_joined = bits_between_joined;
      padded = padding_fills;
    }
