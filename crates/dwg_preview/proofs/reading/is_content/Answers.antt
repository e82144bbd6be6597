use Rattle.std.proofs.Common.{arith}
use Rattle.dwg_base.proofs.ByteLists.{are_bytes}
use Rattle.dwg_preview.proofs.Contents.{content_found, entries_cut}
use Rattle.dwg_preview.proofs.reading.is_content.Goals as goal

pub returns-then-content-entries_end : goal.returns-then-content-entries_end
returns-then-content-entries_end c = entries_cut c.args.place c.entry_count-count.result c.args.content.now c.entry_count-count.ensures (omega arith)

pub returns : goal.returns
returns c =
    content_found c.all_lie_between.result c.args.place c.from.result c.entry_count-count.result c.args.content.now c.from.ensures c.entry_count-count.ensures
    (are_bytes c.args.content.now (λ i. omega (arith, c.type_inv.content i))) c.requires (omega arith) (omega arith) c.all_lie_between.ensures
