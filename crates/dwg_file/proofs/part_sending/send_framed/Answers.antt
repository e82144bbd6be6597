use Rattle.std.proofs.Common.{subst, List, ℕ}
use Rattle.dwg_sections.specs.Framed.{framed_bytes}
use Rattle.dwg_file.specs.WriteBuffer.{Writes}
use Rattle.dwg_file.proofs.SentParts.{framed_given}
use Rattle.dwg_file.proofs.part_sending.send_framed.Goals as goal

pub returns-clause-writes : goal.returns-clause-writes
returns-clause-writes g c =
    let around = c.framed_pieces-around.result in
    subst (λ (bytes : List ℕ). Writes (g.W.Sink.taken c.args.sink.now) (g.W.Sink.taken c.send_all.new.sink) c.args.buffer.now c.send_all.new.buffer bytes c.send_all.result)
    (framed_given around.begin around.size c.args.content.now around.word around.end c.as_slice.result.now c.as_slice-2.result.now c.as_slice-3.result.now c.as_slice-4.result.now
    (framed_bytes c.args.which c.args.content.now) c.as_slice.ensures c.as_slice-2.ensures c.as_slice-3.ensures c.as_slice-4.ensures c.framed_pieces-around.ensures)
    c.send_all.ensures.writes
