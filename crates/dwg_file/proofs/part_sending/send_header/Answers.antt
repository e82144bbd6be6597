use Rattle.std.proofs.Common.{subst, List, ℕ}
use Rattle.dwg_sections.specs.FileHeader.{header_bytes}
use Rattle.dwg_file.specs.WriteBuffer.{Writes}
use Rattle.dwg_file.proofs.CanonicalParts.{header_is_bytes}
use Rattle.dwg_file.proofs.SentParts.{part_aligned, part_bytes}
use Rattle.dwg_file.proofs.part_sending.send_header.Goals as goal

pub bytes_of-requires : goal.bytes_of-requires
bytes_of-requires g c = part_aligned _ _ (header_bytes c.args.header.now) c.clear.ensures.empty c.write_file_header.ensures

pub returns-clause-writes : goal.returns-clause-writes
returns-clause-writes g c =
    subst (λ (bytes : List ℕ). Writes (g.W.Sink.taken c.args.sink.now) (g.W.Sink.taken c.write.new.sink) c.args.buffer.now c.write.new.self bytes c.write.result)
    (part_bytes _ _ (header_bytes c.args.header.now) c.bytes_of.result.now c.clear.ensures.empty c.write_file_header.ensures (header_is_bytes c.args.header.now c.requires.header) c.bytes_of.ensures)
    c.write.ensures.writes
