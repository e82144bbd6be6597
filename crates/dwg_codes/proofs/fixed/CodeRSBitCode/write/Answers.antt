use Rattle.std.specs.Int.{w16, from_be_bytes, to_le_bytes}
use Rattle.std.proofs.Common.{◌∙◌, ap, refl}
use Rattle.std.proofs.lemmas.Nat.{be_bytes_2}
use Rattle.dwg_grammar.proofs.NumberLemmas.{byte_in, bytes_of_number}
use Rattle.dwg_codes.proofs.WordReading.{word_written}
use Rattle.dwg_codes.proofs.fixed.CodeRSBitCode.write.Goals as goal

pub returns : goal.returns
returns c =
    let value = c.args.value.now in
    let bytes_of_bits = c.from.ensures ∙ c.from_be_bytes-bits.ensures ∙ ap (from_be_bytes w16) c.to_le_bytes.ensures in
    word_written 2 _ _ _ _ (be_bytes_2 (to_le_bytes w16 value) _ refl (byte_in (to_le_bytes w16 value) (bytes_of_number 0 2 value)) bytes_of_bits) c.push.ensures
