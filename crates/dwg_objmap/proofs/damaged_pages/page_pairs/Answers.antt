use Rattle.std.proofs.Common.{arith}
use Rattle.dwg_objmap.proofs.PrefixReading.{longest_of_page}
use Rattle.dwg_objmap.proofs.damaged_pages.page_pairs.Goals as goal

pub returns-clause-longest : goal.returns-clause-longest
returns-clause-longest c =
    longest_of_page c.read_leading.result c.args.bytes.now c.body.result.now c.args.place (λ i. omega (arith, c.type_inv.bytes i)) c.body.ensures c.read_leading.ensures
