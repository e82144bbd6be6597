use Rattle.std.proofs.Common.{refl, sym, subst, List, ◌+◌, ◌++◌, length, map}
use Rattle.std.specs.List.{AllByRecursion}
use Rattle.std.proofs.lemmas.Result.{err_from_is_err_and}
use Rattle.dwg_object.specs.declared.object.Object.{Object}
use Rattle.dwg_object.specs.Objects.{value_of}
use Rattle.dwg_sections.specs.FileHeader.{IsFileHeader, header_bytes}
use Rattle.dwg_file.specs.Canonical.{carried_by, frames_bytes}
use Rattle.dwg_file.specs.Contents.{contents_of}
use Rattle.dwg_file.specs.Plans.{CanBeSent, sections_bytes}
use Rattle.dwg_file.proofs.CanonicalHeader.{header_fits}
use Rattle.dwg_file.proofs.GivenBytes.{given_both, cut_sends, flushed_sends}
use Rattle.dwg_file.proofs.PlanFacts.{all_with_more, has_with_more}
use Rattle.dwg_file.proofs.PlanWriting.{header_room, prefix_pieces, first_cut, second_cut, third_cut}
use Rattle.dwg_file.proofs.file_writer.send_prefix.Goals as goal

pub send_header-requires-clause-header : goal.send_header-requires-clause-header
send_header-requires-clause-header g c = subst IsFileHeader (sym c.requires.ready.is_header) (header_fits (carried_by c.args.carried.now) (contents_of c.args.parts.now) c.requires.ready.valid c.requires.ready.small)

pub send_header-requires-clause-room : goal.send_header-requires-clause-room
send_header-requires-clause-room g c = header_room (carried_by c.args.carried.now) (contents_of c.args.parts.now) c.args.header.now _ c.requires.ready.is_header c.requires.ready.has.header

pub returns-in_err-send_header-clause-bytes : goal.returns-in_err-send_header-clause-bytes
returns-in_err-send_header-clause-bytes g c =
    let p = err_from_is_err_and c.from_residual.result c.from_residual.ensures.1 in
    rw p.1 (
    let drawing = contents_of c.args.parts.now in
    let whole = prefix_pieces (carried_by c.args.carried.now) drawing c.args.header.now drawing.objects c.requires.ready.is_header refl in
    cut_sends _ _ c.args.buffer.now _ c.requires.none (first_cut _ _ _ (header_bytes c.args.header.now) (sections_bytes (carried_by c.args.carried.now) drawing) (frames_bytes drawing.version drawing.objects) _ whole c.in_err-send_header.ensures.writes)
    )

pub send_sections-requires-clause-room : goal.send_sections-requires-clause-room
send_sections-requires-clause-room g c = has_with_more (carried_by c.args.carried.now) _ _ (contents_of c.args.parts.now) c.in_ok-send_header.ensures.room c.requires.ready.has

pub returns-in_err-send_sections-clause-bytes : goal.returns-in_err-send_sections-clause-bytes
returns-in_err-send_sections-clause-bytes g c =
    let p = err_from_is_err_and c.from_residual-in_err-send_sections.result c.from_residual-in_err-send_sections.ensures.1 in
    rw p.1 (
    let drawing = contents_of c.args.parts.now in
    let whole = prefix_pieces (carried_by c.args.carried.now) drawing c.args.header.now drawing.objects c.requires.ready.is_header refl in
    cut_sends _ _ c.args.buffer.now _ c.requires.none
    (second_cut _ _ _ _ _ (header_bytes c.args.header.now) (sections_bytes (carried_by c.args.carried.now) drawing) (frames_bytes drawing.version drawing.objects) _ whole c.in_ok-send_header.ensures.writes c.in_err-send_sections.ensures.writes)
    )

pub send_frames-requires : goal.send_frames-requires
send_frames-requires g c =
    let room = c.send_sections.new.part.spare + length c.send_sections.new.part.written in
    subst (λ (objects : List Object). AllByRecursion (CanBeSent c.args.parts.now.version room) (map value_of objects)) (sym c.as_slice.ensures)
    (all_with_more _ _ room (contents_of c.args.parts.now).objects c.in_ok-send_sections.ensures.room
    (all_with_more _ (c.args.part.now.spare + length c.args.part.now.written) _ (contents_of c.args.parts.now).objects c.in_ok-send_header.ensures.room c.requires.ready.has.objects))

pub returns-in_err-send_frames-clause-bytes : goal.returns-in_err-send_frames-clause-bytes
returns-in_err-send_frames-clause-bytes g c =
    let p = err_from_is_err_and c.from_residual-in_err-send_frames.result c.from_residual-in_err-send_frames.ensures.1 in
    rw p.1 (
    let drawing = contents_of c.args.parts.now in
    let whole = prefix_pieces (carried_by c.args.carried.now) drawing c.args.header.now drawing.objects c.requires.ready.is_header refl in
    cut_sends _ _ c.args.buffer.now _ c.requires.none
    (third_cut _ _ _ _ _ _ _ (header_bytes c.args.header.now) (sections_bytes (carried_by c.args.carried.now) drawing) (frames_bytes drawing.version drawing.objects) _ whole c.in_ok-send_header.ensures.writes c.in_ok-send_sections.ensures.writes
    (rw c.as_slice.ensures at c.in_err-send_frames.ensures.writes))
    )

pub returns-clause-bytes : goal.returns-clause-bytes
returns-clause-bytes g c =
    let drawing = contents_of c.args.parts.now in
    let header = header_bytes c.args.header.now in
    let whole = prefix_pieces (carried_by c.args.carried.now) drawing c.args.header.now drawing.objects c.requires.ready.is_header refl in
    let both = given_both _ _ _ _ _ _ header (sections_bytes (carried_by c.args.carried.now) drawing) (header ++ sections_bytes (carried_by c.args.carried.now) drawing) refl c.in_ok-send_header.ensures.writes c.in_ok-send_sections.ensures.writes in
    flushed_sends _ _ _ c.args.buffer.now _ _ _ c.flush.result c.requires.none c.flush.ensures.none
    (given_both _ _ _ _ _ _ (header ++ sections_bytes (carried_by c.args.carried.now) drawing) (frames_bytes drawing.version drawing.objects) _ whole both (rw c.as_slice.ensures at c.in_ok-send_frames.ensures.writes))
    c.flush.ensures.writes
