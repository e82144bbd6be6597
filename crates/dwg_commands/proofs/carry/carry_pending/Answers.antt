use Rattle.std.proofs.Common.{ap, ◌∙◌, arith}
use Rattle.dwg_base.proofs.ByteLists.{are_bytes}
use Rattle.dwg_file.specs.Contents.{contents_of}
use Rattle.dwg_preview.proofs.ContentFound.{read_is_found}
use Rattle.dwg_sections.specs.declared.header.FileHeader.{FileHeader}
use Rattle.dwg_commands.proofs.CarryLaws.{carry_reported}
use Rattle.dwg_commands.proofs.carry.carry_pending.Goals as goal

pub returns-clause-reported : goal.returns-clause-reported
returns-clause-reported c =
    let some = rw c.bytes_with_range.ensures.same at c.read_preview-preview.ensures.some in
    let none = rw c.bytes_with_range.ensures.same at c.read_preview-preview.ensures.none in
    carry_reported c.args.bytes.now (contents_of c.in_ok-drawing.drawing) c.in_ok-header.header.preview c.read_preview-preview.result c.note_of-note.result.now c.in_ok-drawing.ensures.holds c.in_ok-drawing.ensures.drawing
    (ap (λ (one : FileHeader). one.preview) c.in_ok-header.ensures.value) some
    (read_is_found c.args.bytes.now c.in_ok-header.header.preview c.read_preview-preview.result c.bytes_with_range.ensures.bytes some none) c.note_of-note.ensures
