use Rattle.std.proofs.Common.{ap, ◌∙◌, arith}
use Rattle.dwg_graph.proofs.Passing.{gathered_all, gathered_further}
use Rattle.dwg_graph.proofs.slot_walk.gathered.Goals as goal

pub items-preserved : goal.items-preserved
items-preserved g c =
    gathered_further g.T.Refers.refers c.args.field c.items.position c.args.items.now c.index-items-position.result c.slot.inside.target c.items.slots c.push.new.self _
    c.items-test.true c.index-items-position.is (ap (λ r. r.target) (c.slot.view_is ∙ c.reference.ensures)) c.items.invariant c.in-Ok.ensures.ok

pub returns : goal.returns
returns g c = gathered_all g.T.Refers.refers c.args.field c.items.position c.args.items.now c.items.slots _ (omega (arith, c.items-test.false)) c.items.invariant
