use Rattle.std.proofs.Common.{arith}
use Rattle.dwg_sections.proofs.BytePuts.{puts_bytes}
use Rattle.dwg_preview.proofs.writing.put.Goals as goal

pub returns : goal.returns
returns c = puts_bytes _ _ c.args.bytes.now (λ i. omega (arith, c.type_inv.bytes i)) c.push_bytes.ensures
