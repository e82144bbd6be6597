use Rattle.std.proofs.Common.{rules, length, arith}
use Rattle.std.proofs.lemmas.Grind.{common_steps}
use Rattle.dwg_audit.proofs.LookupSteps.{at_most, both_taken, none_taken, one_taken}
use Rattle.dwg_audit.proofs.lookups.find_all.Goals as goal

pub names-init : goal.names-init
names-init g c = (search rules, none_taken (length c.args.index.now) c.args.steps.now, tt)

pub names-preserved : goal.names-preserved
names-preserved g c =
    (grind (arith, common_steps), both_taken (length c.args.index.now) c.names.name-index 1 c.args.steps.now c.names.steps c.find_or_same-place.new.steps c.names.invariant.1 c.find_or_same-place.ensures.steps, search rules)

pub returns-in_err-push-clause-steps : goal.returns-in_err-push-clause-steps
returns-in_err-push-clause-steps g c =
    one_taken (length c.args.index.now) c.names.name-index (length c.args.names.now) c.args.steps.now c.names.steps c.find_or_same-place.new.steps c.names-test.true
    c.names.invariant.1 c.find_or_same-place.ensures.steps

pub returns-clause-steps : goal.returns-clause-steps
returns-clause-steps g c =
    at_most (length c.args.index.now) c.names.name-index (length c.args.names.now) c.args.steps.now c.names.steps (search (rules, arith)) c.names.invariant.1
