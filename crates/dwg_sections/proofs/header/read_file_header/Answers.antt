use Rattle.std.proofs.Common.{sym, arith}
use Rattle.dwg_sections.proofs.HeaderSound.{begins_with_value}
use Rattle.dwg_sections.proofs.header.read_file_header.Goals as goal

pub returns-clause-found : goal.returns-clause-found
returns-clause-found c = begins_with_value c.args.bytes.now c.in_ok-header.header (λ i. omega (arith, c.type_inv.bytes i)) (sym c.in_default.ensures.first) c.in_ok-header.ensures
