use Rattle.std.proofs.Common.{subst, ◌∙◌, List}
use Rattle.dwg_cert.proofs.StepTables.{next_reported}
use Rattle.dwg_graph.specs.Places.{Ascend, handles_of}
use Rattle.dwg_object.specs.Objects.{ObjectValue}
use Rattle.dwg_cert.proofs.placing.Indexed.steps_left.Goals as goal

pub returns : goal.returns
returns c =
    next_reported c.args.self.now c.deref.result.now c.deref-2.result.now c.in_ok-steps.steps.items (subst (λ (objects : List ObjectValue). Ascend (handles_of objects)) c.self.view_is c.self.invariant.0)
    (c.deref.ensures.value ∙ c.in_ok-next.ensures) (c.deref-2.ensures.value ∙ c.in_ok-lasts.ensures) c.in_ok-steps.ensures.places c.in_ok-steps.ensures.ranks
