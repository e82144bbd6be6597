use Rattle.std.proofs.Common.{◌∙◌, ap}
use Rattle.std.specs.Prelude.{Ok}
use Rattle.dwg_recover.proofs.FrameScanning.{short_body, is_read}
use Rattle.dwg_recover.proofs.ScanReading.{common_read}
use Rattle.dwg_recover.proofs.scan.read_with_common_part.Goals as goal

pub read_body_hinted-requires : goal.read_body_hinted-requires
read_body_hinted-requires c = short_body c.args.bytes.now c.span_body.result.now c.args.span.now c.requires.stands c.span_body.ensures

pub returns-in-Some : goal.returns-in-Some
returns-in-Some c =
    let clauses = rw c.in-Some.is at c.in_ok-object.ensures in
    common_read _ c.args.hints.now c.args.bytes.now c.span_body.result.now c.args.span.now c.in-Some.object c.of_common_part.result c.of_common_part.ensures c.span_body.ensures c.requires.head c.of_input.ensures clauses.form

pub returns-in-None : goal.returns-in-None
returns-in-None c =
    absurd (is_read _ c.args.bytes.now c.span_body.result.now c.args.span.now c.span_body.ensures c.requires.head c.of_input.ensures (c.read_body_hinted.ensures.none (c.in_ok-object.was ∙ ap Ok c.in-None.is)))
