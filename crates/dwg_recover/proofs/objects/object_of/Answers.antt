use Rattle.std.proofs.Common.{refl, sym, ◌∙◌, ap, subst}
use Rattle.std.specs.Prelude.{Ok}
use Rattle.std.specs.Option.{IsSome}
use Rattle.dwg_object.specs.Objects.{value_of}
use Rattle.dwg_recover.proofs.FrameScanning.{short_body, is_read}
use Rattle.dwg_recover.proofs.RecoveryParts.{found_unrefused, own_found, object_read}
use Rattle.dwg_recover.proofs.objects.object_of.Goals as goal

pub unreachable-requires : goal.unreachable-requires
unreachable-requires c = found_unrefused c.args.bytes.now c.args.frame.now c.in_default.field-0 c.requires c.in_default.ensures.tried

pub read_body_hinted-requires : goal.read_body_hinted-requires
read_body_hinted-requires c = short_body c.args.bytes.now c.span_body.result.now c.in-Ok.span c.in-Ok.ensures.found c.span_body.ensures

pub unreachable-requires-in-None : goal.unreachable-requires-in-None
unreachable-requires-in-None c =
    is_read _ c.args.bytes.now c.span_body.result.now c.in-Ok.span c.span_body.ensures
    (subst IsSome (sym (own_found c.args.bytes.now c.args.frame.now c.in-Ok.span c.requires c.in-Ok.ensures.tried)) refl) c.of_input.ensures
    (c.read_body_hinted.ensures.none (c.in_ok-object.was ∙ ap Ok c.in-None.is))

pub returns : goal.returns
returns c =
    let clauses = rw c.in-Some.is at c.in_ok-object.ensures in
    object_read _ c.args.hints.now c.args.bytes.now c.args.frame.now c.in-Ok.span c.span_body.result.now (value_of c.in-Some.object) c.requires c.in-Ok.ensures.tried c.span_body.ensures c.of_input.ensures clauses.form
