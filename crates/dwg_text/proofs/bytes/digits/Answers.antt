use Rattle.std.proofs.Common.{arith}
use Rattle.std.specs.Prelude.{string_bytes}
use Rattle.dwg_base.proofs.ByteLists.{are_bytes}
use Rattle.dwg_text.proofs.WrittenDigits.{encoded_digits}
use Rattle.dwg_text.proofs.bytes.digits.Goals as goal

pub returns : goal.returns
returns c = encoded_digits string_bytes c.encode.result c.args.bytes.now (are_bytes c.args.bytes.now (λ i. omega (arith, c.type_inv.bytes i))) c.encode.ensures
