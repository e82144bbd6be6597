use Rattle.std.proofs.Common.{◌∙◌, arith, subst, take}
use Rattle.std.specs.Io.KnownBytes.{Appends}
use Rattle.dwg_base.proofs.Sending.{sent_more, sent_so_far}
use Rattle.dwg_base.proofs.device.put_all.Goals as goal

pub loop-sent-preserved : goal.loop-sent-preserved
loop-sent-preserved g c =
    let taken = subst (λ rest. Appends (g.W.Sink.taken c.loop-sent.sink) (g.W.Sink.taken c.write.new.self) (take c.in-Ok.n rest)) c.bytes_after.ensures.rest c.in-Ok.ensures.bytes in
    record {
      within = omega (arith, c.in-Ok.ensures.bound, c.bytes_after.ensures.len, c.loop-sent.invariant.within);
      sent_prefix = sent_more _ _ _ c.args.piece.now c.loop-sent.sent c.in-Ok.n c.loop-sent.invariant.sent_prefix taken;
      quiet = c.in-Ok.ensures.counts.ok ∙ c.loop-sent.invariant.quiet;
    }

pub returns-in-Err-clause-bytes : goal.returns-in-Err-clause-bytes
returns-in-Err-clause-bytes g c = sent_so_far _ _ _ c.args.piece.now c.loop-sent.sent c.loop-sent.invariant.sent_prefix c.in-Err.ensures.bytes
