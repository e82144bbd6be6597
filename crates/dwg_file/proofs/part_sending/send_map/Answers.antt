use Rattle.std.proofs.lemmas.Result.{err_from_is_err_and}
use Rattle.dwg_file.proofs.PlanMap.{map_sent, map_cut}
use Rattle.dwg_file.proofs.part_sending.send_map.Goals as goal

pub returns-in_err-put_pairs-clause-bytes : goal.returns-in_err-put_pairs-clause-bytes
returns-in_err-put_pairs-clause-bytes g c =
    let p = err_from_is_err_and c.from_residual.result c.from_residual.ensures.1 in
    rw p.1 (map_cut c.args.pairs.now _ _ c.restart.new.self c.restart.ensures c.in_err-put_pairs.ensures.cut)

pub returns-clause-bytes : goal.returns-clause-bytes
returns-clause-bytes g c = map_sent c.args.pairs.now _ _ _ c.restart.new.self c.put_pairs.new.writer c.end.result c.restart.ensures c.in_ok-put_pairs.ensures.put c.end.ensures.bytes
