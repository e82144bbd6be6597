use Rattle.std.specs.List.{AllByRecursion}
use Rattle.dwg_show.specs.FewBits.{HasFewBits}
use Rattle.dwg_show.proofs.FewBits.{few_of_objects}
use Rattle.std.proofs.Common.{ap, subst, sym}
use Rattle.std.specs.Prelude.{flat_map, map}
use Rattle.dwg_file.specs.Contents.{other_value}
use Rattle.dwg_object.specs.Objects.{value_of}
use Rattle.dwg_text.specs.Classes.{classes_text}
use Rattle.dwg_show.specs.DrawingText.{variables_line, other_line, objects_text, show_text}
use Rattle.dwg_text.specs.Writing.{WritesText}
use Rattle.dwg_text.proofs.Writing.{◌▷◌}
use Rattle.dwg_show.proofs.drawing.write_drawing.Goals as goal

pub returns : goal.returns
unfolding show_text
returns g c =
    c.write_drawing_line.ensures
    ▷ subst (WritesText _ _ _ _ _ _) (ap variables_line c.as_slice.ensures) c.write_variables.ensures
    ▷ subst (WritesText _ _ _ _ _ _) (ap classes_text c.as_slice-2.ensures) c.write_classes.ensures
    ▷ subst (WritesText _ _ _ _ _ _) (ap (λ others. flat_map other_line (map other_value others)) c.as_slice-3.ensures) c.write_others.ensures
    ▷ subst (WritesText _ _ _ _ _ _) (ap (λ objects. objects_text (map value_of objects)) c.as_slice-4.ensures) c.write_objects.ensures

pub write_objects-requires : goal.write_objects-requires
write_objects-requires g c =
    subst (λ objects. AllByRecursion HasFewBits (map value_of objects)) (sym c.as_slice-4.ensures) (few_of_objects c.args.parts.now.version c.args.parts.now.classes _ c.requires.objects)
