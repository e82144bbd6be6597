use Rattle.std.proofs.Common.{◌-◌}
use Rattle.dwg_graph.proofs.Searching.{spends_after, spends_before, is_missing}
use Rattle.dwg_graph.proofs.index.place_of.Goals as goal

pub halves-preserved-then-lt : goal.halves-preserved-then-lt
halves-preserved-then-lt g c =
    spends_after c.args.handles.now c.args.handle c.halves.from c.halves.width c.args.steps.now c.halves.steps c.tick.new.self c.index-handles-from.result c.requires.ascend c.halves.invariant
    c.halves-test.true c.index-handles-from.is c.if-lt.ensures c.tick.ensures

pub halves-preserved : goal.halves-preserved
halves-preserved g c =
    spends_before c.args.handles.now c.args.handle c.halves.from c.halves.width c.args.steps.now c.halves.steps c.tick.new.self c.index-handles-from.result c.requires.ascend c.halves.invariant
    c.halves-test.true c.index-handles-from.is c.if-eq.ensures c.if-lt.ensures c.tick.ensures

pub returns-clause-place : goal.returns-clause-place
returns-clause-place g c = is_missing c.args.handles.now c.args.handle c.halves.from c.halves.width (c.halves.steps - c.args.steps.now) c.halves.invariant.1 c.halves-test.false
