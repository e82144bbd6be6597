use Rattle.std.proofs.Common.{ap, sym}
use Rattle.dwg_commands.specs.Pendings.{comes_to}
use Rattle.dwg_commands.proofs.Deliveries.{sent_same}
use Rattle.dwg_commands.proofs.sending.send_pending.Goals as goal

pub returns-in-Text : goal.returns-in-Text
returns-in-Text g c = sent_same _ _ _ _ _ (sym (ap comes_to c.in-Text.is)) (c.send_text.ensures (g.N.Sink.taken c.args.notes.now) (g.N.Sink.faults c.args.notes.now))
