use Rattle.std.proofs.lemmas.Result.{err_from_is_err_and}
use Rattle.dwg_objmap.proofs.Putting.{map_closed, close_cut}
use Rattle.dwg_objmap.proofs.page_writing.PageWriter.end.Goals as goal

pub returns-in_err-send_filled-clause-bytes : goal.returns-in_err-send_filled-clause-bytes
returns-in_err-send_filled-clause-bytes g c =
    let p = err_from_is_err_and c.from_residual.result c.from_residual.ensures.1 in
    rw p.1 (close_cut _ _ c.self.inside.page.items c.self.inside.last c.self.inside.ended c.args.self.now c.self.view_is c.in_err-send_filled.ensures.bytes)

pub returns-clause-bytes : goal.returns-clause-bytes
returns-clause-bytes g c =
    map_closed _ _ _ c.self.inside.page.items c.send_filled.new.page.items c.self.inside.last c.self.inside.ended c.args.self.now c.send_page.result c.self.view_is c.in_ok-send_filled.ensures.none
    c.in_ok-send_filled.ensures.bytes c.send_page.ensures.bytes
