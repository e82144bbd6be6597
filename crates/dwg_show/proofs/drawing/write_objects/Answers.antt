use Rattle.dwg_show.proofs.FewBits.{all_of_seen}
use Rattle.dwg_show.specs.FewBits.{HasFewBits}
use Rattle.std.proofs.Common.{sym, ap₂, subst, ◌++◌}
use Rattle.std.specs.Prelude.{codes, decimal}
use Rattle.std.proofs.lemmas.List.{length-map}
use Rattle.dwg_object.specs.Objects.{value_of}
use Rattle.dwg_text.specs.Lines.{line}
use Rattle.dwg_show.specs.DrawingText.{objects_text}
use Rattle.dwg_show.specs.ObjectText.{object_text}
use Rattle.dwg_text.specs.Writing.{WritesText}
use Rattle.dwg_text.proofs.Elements.{written_of_seen}
use Rattle.dwg_text.proofs.Writing.{◌▷◌}
use Rattle.dwg_show.proofs.drawing.write_objects.Goals as goal

pub returns : goal.returns
unfolding objects_text
returns g c =
    subst (WritesText _ _ _ _ _ _)
    (ap₂ (λ count text. line (codes "objects " ++ decimal count) ++ text) (sym (length-map c.args.objects.now value_of)) (written_of_seen object_text value_of c.args.objects.now))
    (c.write_made.ensures _ c.count_line.ensures ▷ c.write_all.ensures)

pub write_all-requires : goal.write_all-requires
write_all-requires g c = all_of_seen HasFewBits value_of c.args.objects.now c.requires
