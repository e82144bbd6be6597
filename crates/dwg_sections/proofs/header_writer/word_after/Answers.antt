use Rattle.std.proofs.Common.{arith}
use Rattle.dwg_base.proofs.ByteLists.{are_bytes}
use Rattle.dwg_sections.proofs.header_writer.word_after.Goals as goal

pub returns-clause-small : goal.returns-clause-small
returns-clause-small c = are_bytes c.args.prefix.now (λ i. omega (arith, c.type_inv.prefix i))
