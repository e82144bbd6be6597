use Rattle.std.proofs.Common.{arith}
use Rattle.std.proofs.lemmas.Result.{err_from_is_err_and}
use Rattle.dwg_objmap.proofs.Answered.{map_tried, map_found, map_fault, map_refused_by}
use Rattle.dwg_objmap.proofs.map_reading.read_map.Goals as goal

pub returns-clause-tried : goal.returns-clause-tried
returns-clause-tried c = map_tried _ _ c.args.place c.args.bytes.now c.in_ok-gathered.ensures c.into_pairs.ensures

pub returns-clause-found : goal.returns-clause-found
returns-clause-found c =
    map_found _ c.args.place c.args.bytes.now (λ i. omega (arith, c.type_inv.bytes i)) (map_tried _ _ c.args.place c.args.bytes.now c.in_ok-gathered.ensures c.into_pairs.ensures)

pub returns-in_err-gathered-clause-tried : goal.returns-in_err-gathered-clause-tried
returns-in_err-gathered-clause-tried c =
    let p = err_from_is_err_and c.from_residual.result c.from_residual.ensures.1 in
    rw (p.1, p.2) (map_fault _ c.args.place c.args.bytes.now c.in_err-gathered.ensures)

pub returns-in_err-gathered-clause-refused : goal.returns-in_err-gathered-clause-refused
returns-in_err-gathered-clause-refused c =
    let p = err_from_is_err_and c.from_residual.result c.from_residual.ensures.1 in
    rw (p.1, p.2) (map_refused_by _ c.args.place c.args.bytes.now (λ i. omega (arith, c.type_inv.bytes i)) (map_fault _ c.args.place c.args.bytes.now c.in_err-gathered.ensures))
