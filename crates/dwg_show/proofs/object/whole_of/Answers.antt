use Rattle.std.proofs.Common.{sym, arith}
use Rattle.dwg_base.proofs.ByteLists.{are_bytes}
use Rattle.dwg_bits.proofs.WholeBytes.{whole_of_bits}
use Rattle.dwg_show.proofs.object.whole_of.Goals as goal

pub returns : goal.returns
returns c = sym (whole_of_bits c.args.bytes.now (are_bytes c.args.bytes.now (λ i. omega (arith, c.type_inv.bytes i))))
