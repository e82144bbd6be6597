use Rattle.std.proofs.Common.{subst, List, ℕ, length, ◌∙◌, arith}
use Rattle.dwg_grammar.specs.ModularCodes.{ms}
use Rattle.dwg_object.proofs.LengthLemmas.{length_is_bytes}
use Rattle.dwg_file.specs.WriteBuffer.{Writes}
use Rattle.dwg_file.proofs.SentParts.{part_aligned, part_bytes, frame_given}
use Rattle.dwg_file.proofs.part_sending.send_raw_frame.Goals as goal

pub bytes_of-size-requires : goal.bytes_of-size-requires
bytes_of-size-requires g c = part_aligned _ _ (ms.short (length c.args.body.now)) c.clear.ensures.empty c.write_ms.ensures

pub returns-clause-writes : goal.returns-clause-writes
returns-clause-writes g c =
    let size = ms.short (length c.args.body.now) in
    let spelled = part_bytes _ _ size c.bytes_of-size.result.now c.clear.ensures.empty c.write_ms.ensures (length_is_bytes (length c.args.body.now) (omega (arith, c.requires.few))) c.bytes_of-size.ensures in
    subst (λ (bytes : List ℕ). Writes (g.W.Sink.taken c.args.sink.now) (g.W.Sink.taken c.send_all.new.sink) c.args.buffer.now c.send_all.new.buffer bytes c.send_all.result)
    (frame_given c.bytes_of-size.result.now c.args.body.now c.as_slice.result.now size c.check.result c.check-2.result spelled c.check.ensures c.check-2.ensures
    (c.as_slice.ensures ∙ c.to_le_bytes-word.ensures))
    c.send_all.ensures.writes
