use Rattle.std.proofs.Common.{sym, ◌∙◌, ap, subst, List, ℕ, length}
use Rattle.dwg_grammar.specs.ModularCodes.{ms}
use Rattle.dwg_codes.specs.Parts.{part_bytes}
use Rattle.dwg_object.specs.declared.object.Object.{Object}
use Rattle.dwg_object.specs.Frames.{frame_bytes, framed_body}
use Rattle.dwg_object.specs.Objects.{value_of}
use Rattle.dwg_object.proofs.FormLaws.{frame_is_bytes}
use Rattle.dwg_file.specs.WriteBuffer.{Writes}
use Rattle.dwg_file.proofs.SentParts.{part_aligned, part_bytes as bytes_of_part, raw_frame}
use Rattle.dwg_file.proofs.part_sending.send_frame.Goals as goal

pub returns-in-Raw-clause-writes : goal.returns-in-Raw-clause-writes
returns-in-Raw-clause-writes g c =
    subst (λ (bytes : List ℕ). Writes (g.W.Sink.taken c.args.sink.now) (g.W.Sink.taken c.send_raw_frame.new.sink) c.args.buffer.now c.send_raw_frame.new.buffer bytes c.send_raw_frame.result)
    (ap (λ (body : List ℕ). framed_body (ms.short (length body)) body) c.as_slice.ensures ∙ raw_frame c.args.version c.in-Raw.raw.number c.in-Raw.raw.handle (part_bytes c.in-Raw.raw.bytes)
    ∙ ap (λ (object : Object). frame_bytes c.args.version (value_of object)) (sym c.in-Raw.is))
    c.send_raw_frame.ensures.writes

pub bytes_of-requires : goal.bytes_of-requires
bytes_of-requires g c = part_aligned _ _ (frame_bytes c.args.version (value_of c.args.object.now)) c.clear.ensures.empty c.write_frame.ensures

pub returns-clause-writes : goal.returns-clause-writes
returns-clause-writes g c =
    let value = value_of c.args.object.now in
    subst (λ (bytes : List ℕ). Writes (g.W.Sink.taken c.args.sink.now) (g.W.Sink.taken c.write.new.sink) c.args.buffer.now c.write.new.self bytes c.write.result)
    (bytes_of_part _ _ (frame_bytes c.args.version value) c.bytes_of.result.now c.clear.ensures.empty c.write_frame.ensures (frame_is_bytes c.args.version value c.requires.are c.requires.framed.1) c.bytes_of.ensures)
    c.write.ensures.writes
