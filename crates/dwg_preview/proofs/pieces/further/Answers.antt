use Rattle.std.proofs.Common.{refl, arith}
use Rattle.std.specs.Prelude.{slice_index}
use Rattle.dwg_preview.proofs.Contents.{content_reads}
use Rattle.dwg_preview.proofs.pieces.further.Goals as goal

pub bytes_from-requires : goal.bytes_from-requires
bytes_from-requires c =
    let content = c.args.preview.now.content.now in
    let reads = content_reads c.args.preview.now.place (slice_index content 0) content c.requires.read refl in
    omega (arith, reads.within, c.further_place.ensures)
