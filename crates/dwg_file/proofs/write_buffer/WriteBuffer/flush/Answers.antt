use Rattle.dwg_file.proofs.GivenBytes.{flushes}
use Rattle.dwg_file.proofs.write_buffer.WriteBuffer.flush.Goals as goal

pub returns-clause-writes : goal.returns-clause-writes
returns-clause-writes g c = flushes _ _ c.args.self.now _ _ c.send.ensures.none (rw c.self.view_is at c.send.ensures.sends)
