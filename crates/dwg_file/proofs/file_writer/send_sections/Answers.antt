use Rattle.std.proofs.Common.{refl, sym, subst, ap, length, arith}
use Rattle.std.proofs.lemmas.Result.{err_from_is_err_and}
use Rattle.dwg_classes.specs.WrittenClasses.{AreWritable}
use Rattle.dwg_sections.specs.declared.framed.Framed.TheVariants.{Variables, Classes}
use Rattle.dwg_sections.specs.Framed.{framed_bytes}
use Rattle.dwg_preview.specs.Previews.{prefix_bytes}
use Rattle.dwg_file.specs.Canonical.{carried_by, class_content, preview_at, preview_place}
use Rattle.dwg_file.specs.Contents.{contents_of}
use Rattle.dwg_file.proofs.PlanFacts.{valid_writable}
use Rattle.dwg_file.proofs.PlanWriting.{sections_pieces, first_cut, second_cut, three_given}
use Rattle.dwg_file.proofs.file_writer.send_sections.Goals as goal

pub returns-in_err-send_framed-clause-writes : goal.returns-in_err-send_framed-clause-writes
returns-in_err-send_framed-clause-writes g c =
    let p = err_from_is_err_and c.from_residual.result c.from_residual.ensures.1 in
    rw p.1 (
    let drawing = contents_of c.args.parts.now in
    let carried = carried_by c.args.carried.now in
    let preview = preview_at carried (preview_place drawing) in
    let whole = sections_pieces carried drawing c.as_slice.result.now drawing.classes c.as_slice.ensures refl in
    first_cut _ _ _ (framed_bytes Variables c.as_slice.result.now) (framed_bytes Classes (class_content drawing.classes)) preview _ whole c.in_err-send_framed.ensures.writes
    )

pub send_classes-requires-clause-writable : goal.send_classes-requires-clause-writable
send_classes-requires-clause-writable g c = subst AreWritable (sym c.as_slice-2.ensures) (valid_writable (contents_of c.args.parts.now) c.requires.valid)

pub returns-in_err-send_classes-clause-writes : goal.returns-in_err-send_classes-clause-writes
returns-in_err-send_classes-clause-writes g c =
    let p = err_from_is_err_and c.from_residual-in_err-send_classes.result c.from_residual-in_err-send_classes.ensures.1 in
    rw p.1 (
    let drawing = contents_of c.args.parts.now in
    let carried = carried_by c.args.carried.now in
    let preview = preview_at carried (preview_place drawing) in
    let whole = sections_pieces carried drawing c.as_slice.result.now c.as_slice-2.result.now c.as_slice.ensures c.as_slice-2.ensures in
    second_cut _ _ _ _ _ (framed_bytes Variables c.as_slice.result.now) (framed_bytes Classes (class_content c.as_slice-2.result.now)) preview _ whole c.in_ok-send_framed.ensures.writes
    c.in_err-send_classes.ensures.writes
    )

pub returns-clause-writes : goal.returns-clause-writes
returns-clause-writes g c =
    let drawing = contents_of c.args.parts.now in
    let carried = carried_by c.args.carried.now in
    let preview = preview_at carried (preview_place drawing) in
    let whole = sections_pieces carried drawing c.as_slice.result.now c.as_slice-2.result.now c.as_slice.ensures c.as_slice-2.ensures in
    three_given _ _ _ _ _ _ _ _ (framed_bytes Variables c.as_slice.result.now) (framed_bytes Classes (class_content c.as_slice-2.result.now)) preview _ c.send_preview.result whole c.in_ok-send_framed.ensures.writes
    c.in_ok-send_classes.ensures.writes (rw c.requires.place at c.send_preview.ensures.writes)

pub send_preview-requires-clause-within : goal.send_preview-requires-clause-within
send_preview-requires-clause-within g c = omega (arith, c.requires.place, c.requires.small)

pub send_preview-requires-clause-room : goal.send_preview-requires-clause-room
send_preview-requires-clause-room g c =
    let carried = carried_by c.args.carried.now in
    omega (arith, c.in_ok-send_classes.ensures.room, c.requires.room.preview, ap (λ place. length (prefix_bytes carried.place place carried.content)) c.requires.place)
