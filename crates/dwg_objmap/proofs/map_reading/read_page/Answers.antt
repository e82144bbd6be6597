use Rattle.std.proofs.Common.{arith}
use Rattle.std.proofs.lemmas.Result.{err_from_is_err_and}
use Rattle.dwg_objmap.proofs.Answered.{page_tried, page_found, page_fault, page_refused_by}
use Rattle.dwg_objmap.proofs.map_reading.read_page.Goals as goal

pub returns-clause-tried : goal.returns-clause-tried
returns-clause-tried c = (
  page_tried _ _ _ c.args.place c.args.index c.args.bytes.now c.new.ensures c.in_ok-gathered.ensures.tried c.into_pairs.ensures,
  c.next_place.ensures,
)

pub returns-clause-found : goal.returns-clause-found
returns-clause-found c =
    page_found _ c.args.place c.args.index _ c.args.bytes.now (λ i. omega (arith, c.type_inv.bytes i))
    (page_tried _ _ _ c.args.place c.args.index c.args.bytes.now c.new.ensures c.in_ok-gathered.ensures.tried c.into_pairs.ensures) c.next_place.ensures

pub returns-in_err-gathered-clause-tried : goal.returns-in_err-gathered-clause-tried
returns-in_err-gathered-clause-tried c =
    let p = err_from_is_err_and c.from_residual.result c.from_residual.ensures.1 in
    rw (p.1, p.2) (page_fault _ _ c.args.place c.args.index _ c.args.bytes.now c.new.ensures c.in_err-gathered.ensures.tried)

pub returns-in_err-gathered-clause-refused : goal.returns-in_err-gathered-clause-refused
returns-in_err-gathered-clause-refused c =
    let p = err_from_is_err_and c.from_residual.result c.from_residual.ensures.1 in
    rw (p.1, p.2) (page_refused_by _ c.args.place c.args.index 0 c.args.bytes.now (λ i. omega (arith, c.type_inv.bytes i))
    (page_fault _ _ c.args.place c.args.index 0 c.args.bytes.now c.new.ensures c.in_err-gathered.ensures.tried))
