use Rattle.dwg_codes.proofs.TagReading.{tagged_read, tagged_unread}
use Rattle.dwg_codes.proofs.tagged.read_tagged.Goals as goal

pub returns-in_err-value-clause-reads : goal.returns-in_err-value-clause-reads
returns-in_err-value-clause-reads g c =
    let code = g.C.Tagged in
    let context = c.args.context.now in
    tagged_unread (code.by context) (code.IsTagged context) (code.pick context) _ code.WIDTH c.in_ok-tag.tag _ _ _ _
    c.WIDTH.ensures c.from_residual-in_err-value.ensures c.in_ok-tag.ensures.reads c.in_err-value.ensures.reads

pub returns-clause-reads : goal.returns-clause-reads
returns-clause-reads g c =
    let code = g.C.Tagged in
    let context = c.args.context.now in
    tagged_read (code.by context) (code.IsTagged context) (code.pick context) _ code.WIDTH c.in_ok-tag.tag _ _ _ _
    c.WIDTH.ensures c.in_ok-tag.ensures.reads c.in_ok-value.ensures.reads
