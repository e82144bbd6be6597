use Rattle.std.proofs.Common.{◌≡◌, ◌∙◌, sym, ap, subst, ◌+◌, ◌*◌, List, length, arith}
use Rattle.std.proofs.lemmas.List.{length-map}
use Rattle.dwg_classes.specs.declared.class.Class.{Class}
use Rattle.dwg_file.specs.Canonical.{carried_by, class_content, frames_bytes, objects_place_with, preview_place}
use Rattle.std.specs.Prelude.{map}
use Rattle.std.specs.List.{AllByRecursion}
use Rattle.dwg_classes.specs.WrittenClasses.{AreWritable}
use Rattle.dwg_object.specs.declared.object.Object.{Object}
use Rattle.dwg_object.specs.Objects.{value_of}
use Rattle.dwg_file.specs.Contents.{other_value, contents_of}
use Rattle.dwg_file.specs.Plans.{CanBeFramed, FitsIn}
use Rattle.dwg_file.proofs.PlanFacts.{valid_writable, valid_framed, pairs_ascend_from, pairs_few, objects_sent}
use Rattle.dwg_file.proofs.file_layout.layout_of.Goals as goal

pub content_length-content-requires-clause-writable : goal.content_length-content-requires-clause-writable
content_length-content-requires-clause-writable c = subst AreWritable (sym c.as_slice-2.ensures) (valid_writable (contents_of c.args.parts.now) c.requires.valid)

pub place_objects-requires-clause-framed : goal.place_objects-requires-clause-framed
place_objects-requires-clause-framed c =
    subst (λ (objects : List Object). AllByRecursion (CanBeFramed c.args.parts.now.version) (map value_of objects)) (sym c.as_slice-3.ensures) (valid_framed (contents_of c.args.parts.now) c.requires.valid)

pub map_length-requires-clause-ascending : goal.map_length-requires-clause-ascending
map_length-requires-clause-ascending c =
    let classes : length (class_content c.as_slice-2.result.now) ≡ length (class_content c.args.parts.now.classes) = ap (λ (all : List Class). length (class_content all)) c.as_slice-2.ensures in
    let there : 43 + 9 * (3 + length c.as_slice-sections.result.now) + 38 + length c.as_slice.result.now + 38 + c.content_length-content.result + c.preview_length.result ≡ objects_place_with (carried_by c.args.carried) (contents_of c.args.parts.now) =
    omega (arith, ap length c.as_slice-sections.ensures, length-map c.args.parts.now.others other_value, ap length c.as_slice.ensures, c.content_length-content.ensures, classes, c.preview_length.ensures.counted) in
    pairs_ascend_from (carried_by c.args.carried) (contents_of c.args.parts.now) _ _ c.as_slice-4.result.now c.requires.carried c.requires.valid there (ap (λ (objects : List Object). map value_of objects) c.as_slice-3.ensures)
    (c.as_slice-4.ensures ∙ c.in_ok-frames.ensures.pairs)

pub map_length-requires-clause-few : goal.map_length-requires-clause-few
map_length-requires-clause-few c =
    pairs_few (contents_of c.args.parts.now) _ _ c.as_slice-4.result.now c.requires.valid (ap (λ (objects : List Object). map value_of objects) c.as_slice-3.ensures)
    (c.as_slice-4.ensures ∙ c.in_ok-frames.ensures.pairs)

pub returns-clause-room : goal.returns-clause-room
returns-clause-room c =
    let drawing = contents_of c.args.parts.now in
    let part = c.max-3.result in
    let all = subst (λ (objects : List Object). AllByRecursion (FitsIn c.args.parts.now.version c.in_ok-frames.frames.part) (map value_of objects)) c.as_slice-3.ensures c.in_ok-frames.ensures.part in
    record {
      header = omega (arith, c.max.ensures, c.max-2.ensures, c.max-3.ensures, ap length c.as_slice-sections.ensures, length-map c.args.parts.now.others other_value);
      preview = omega (arith, c.max.ensures, c.max-2.ensures, c.max-3.ensures, c.prefix_length.ensures.length (preview_place drawing));
      classes = omega (arith, c.max-2.ensures, c.max-3.ensures, c.content_length-content.ensures, ap (λ (all : List Class). length (class_content all)) c.as_slice-2.ensures);
      objects = objects_sent c.args.parts.now.version c.args.parts.now.classes drawing.objects c.in_ok-frames.frames.part (8 * part) (omega (arith, c.max-3.ensures)) c.requires.valid.objects all;
    }

pub place_objects-requires-clause-few : goal.place_objects-requires-clause-few
place_objects-requires-clause-few c =
    let objects = ap (λ (all : List Object). length (frames_bytes c.args.parts.now.version (map value_of all))) c.as_slice-3.ensures in
    let classes = ap (λ (all : List Class). length (class_content all)) c.as_slice-2.ensures in
    omega (
      arith,
      c.requires.valid.size,
      c.requires.carried.is.size,
      c.preview_length.ensures.counted,
      objects,
      ap length c.as_slice-sections.ensures,
      length-map c.args.parts.now.others other_value,
      ap length c.as_slice.ensures,
      c.content_length-content.ensures,
      classes,
    )
