use Rattle.std.proofs.Common.{arith}
use Rattle.dwg_objmap.proofs.StepReading.{step_none, step_null, step_again, step_on}
use Rattle.dwg_objmap.proofs.map_reading.read_next.Goals as goal

pub returns-in_default-clause-step : goal.returns-in_default-clause-step
returns-in_default-clause-step c = λ fuel.
    step_none fuel c.args.index c.args.place c.args.gathered c.args.last.now c.args.rest.now c.new.result c.requires c.in_default.ensures.none c.new.ensures

pub returns-then-value-eq0-clause-step : goal.returns-then-value-eq0-clause-step
returns-then-value-eq0-clause-step c = λ fuel.
    step_null fuel c.args.index c.args.place c.args.gathered c.args.last.now c.in-Some.pair c.args.rest.now _ c.new-then-value-eq0.result c.requires c.in-Some.ensures.found
    (omega arith) c.new-then-value-eq0.ensures

pub returns-clause-step : goal.returns-clause-step
returns-clause-step c = λ fuel.
    let ensures = rw c.in-Some-2.is at c.in_ok-gathered.ensures in
    step_on fuel c.args.index c.args.place c.in-Some.used c.args.gathered c.in-Some-2.gathered c.args.last.now c.in-Some.pair c.args.rest.now c.requires c.in-Some.ensures.used
    c.in-Some.ensures.found (omega arith) ensures.new ensures.added

pub returns-in_default-2-clause-step : goal.returns-in_default-2-clause-step
returns-in_default-2-clause-step c = λ fuel.
    let ensures = rw c.in_default-2.is at c.in_ok-gathered.ensures in
    step_again fuel c.args.index c.args.place c.args.gathered c.args.last.now c.in-Some.pair c.args.rest.now _ c.new-in_default-2.result c.requires c.in-Some.ensures.found
    (omega arith) ensures.new c.new-in_default-2.ensures
