use Rattle.std.specs.Int.{w64, from_be_bytes, to_le_bytes}
use Rattle.std.proofs.Common.{◌∙◌, ap, refl}
use Rattle.std.proofs.lemmas.Nat.{be_bytes_8}
use Rattle.dwg_grammar.proofs.NumberLemmas.{byte_in, bytes_of_number}
use Rattle.dwg_grammar.specs.Codes.{word_bytes}
use Rattle.dwg_codes.proofs.WordReading.{word_written}
use Rattle.dwg_codes.proofs.fixed.CodeRDBitCode.write.Goals as goal

pub returns : goal.returns
unfolding word_bytes
returns c =
    let value = c.args.value.now in
    let bytes_of_bits = c.from_be_bytes-bits.ensures ∙ ap (from_be_bytes w64) c.to_le_bytes.ensures in
    word_written 8 _ _ _ _ (be_bytes_8 (to_le_bytes w64 value) _ refl (byte_in (to_le_bytes w64 value) (bytes_of_number 0 8 value)) bytes_of_bits) c.push.ensures
