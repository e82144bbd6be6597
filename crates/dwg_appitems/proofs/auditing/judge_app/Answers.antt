use Rattle.std.proofs.Common.{length, subst}
use Rattle.dwg_appitems.specs.ItemLookups.{TakeAtMost}
use Rattle.dwg_appitems.proofs.LookupSteps.{references_known}
use Rattle.dwg_appitems.proofs.auditing.judge_app.Goals as goal

pub returns-clause-steps : goal.returns-clause-steps
returns-clause-steps g c =
    subst (λ lookups. TakeAtMost (length c.args.objects.now) lookups c.args.steps.now c.judge_items.new.steps)
    (references_known c.args.app.now c.as_slice.result.now c.in_ok-items.field-0 c.in-Some.items c.as_slice-2.result.now c.as_slice.ensures c.in_ok-items.ensures.computed c.in-Some.is
    c.as_slice-2.ensures)
    c.judge_items.ensures.steps
