use Rattle.std.proofs.Common.{subst, List, ℕ}
use Rattle.dwg_preview.specs.Previews.{prefix_bytes}
use Rattle.dwg_file.specs.Canonical.{carried_by}
use Rattle.dwg_file.specs.WriteBuffer.{Writes}
use Rattle.dwg_file.proofs.CanonicalParts.{prefix_is_bytes}
use Rattle.dwg_file.proofs.SentParts.{part_aligned, part_bytes, preview_given}
use Rattle.dwg_file.proofs.part_sending.send_preview.Goals as goal

pub bytes_of-requires : goal.bytes_of-requires
bytes_of-requires g c = part_aligned _ _ (prefix_bytes c.args.carried.now.place c.args.place c.args.carried.now.content.now) c.clear.ensures.empty c.write_prefix.ensures

pub returns-clause-writes : goal.returns-clause-writes
returns-clause-writes g c =
    let carried = carried_by c.args.carried.now in
    let prefix = part_bytes _ _ (prefix_bytes carried.place c.args.place carried.content) c.bytes_of.result.now c.clear.ensures.empty c.write_prefix.ensures (prefix_is_bytes carried c.args.place c.requires.carried.are)
    c.bytes_of.ensures in
    subst (λ (bytes : List ℕ). Writes (g.W.Sink.taken c.args.sink.now) (g.W.Sink.taken c.send_all.new.sink) c.args.buffer.now c.send_all.new.buffer bytes c.send_all.result)
    (preview_given carried c.args.place c.bytes_of.result.now c.further.result.now c.end_sentinel-end.result c.as_slice.result.now c.requires.carried c.requires.within prefix c.further.ensures c.as_slice.ensures
    c.end_sentinel-end.ensures)
    c.send_all.ensures.writes
