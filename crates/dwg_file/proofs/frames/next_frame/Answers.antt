use Rattle.dwg_file.proofs.FramesAlong.{frame_read}
use Rattle.dwg_file.proofs.frames.next_frame.Goals as goal

pub returns-clause-goes_on : goal.returns-clause-goes_on
returns-clause-goes_on c = λ earlier handles has.
    frame_read c.args.hints.now c.args.bytes.now earlier handles c.args.read c.in_ok-more.more c.args.pair.now _ c.in_ok-found.found has (c.in_ok-found.ensures.tried earlier has.touched) c.in_ok-found.ensures.some
    c.in_ok-more.ensures.taken c.in_ok-more.ensures.frames c.in_ok-more.ensures.objects
