use Rattle.std.proofs.Common.{refl, arith}
use Rattle.std.specs.Prelude.{slice_index}
use Rattle.dwg_preview.proofs.Contents.{content_reads}
use Rattle.dwg_preview.proofs.Moving.{length_of_prefix}
use Rattle.dwg_preview.proofs.pieces.prefix_length.Goals as goal

pub returns-clause-length : goal.returns-clause-length
returns-clause-length c = λ to.
    let content = c.args.preview.now.content.now in
    let reads = content_reads c.args.preview.now.place (slice_index content 0) content c.requires.read refl in
    omega (arith, c.further_place.ensures, length_of_prefix c.args.preview.now.place to content reads.some)

pub returns-clause-within : goal.returns-clause-within
returns-clause-within c =
    let content = c.args.preview.now.content.now in
    let reads = content_reads c.args.preview.now.place (slice_index content 0) content c.requires.read refl in
    omega (arith, reads.within, c.further_place.ensures)
