use Rattle.dwg_recover.proofs.FrameScanning.{short_body}
use Rattle.dwg_recover.proofs.frame.own_of_span.Goals as goal

pub own_handle-requires : goal.own_handle-requires
own_handle-requires g c = short_body c.args.bytes.now c.span_body.result.now c.args.span.now c.requires.stands c.span_body.ensures
