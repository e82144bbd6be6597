use Rattle.dwg_show.proofs.FewBits.{all_of_any}
use Rattle.std.proofs.Common.{subst}
use Rattle.dwg_file.specs.Contents.{other_value}
use Rattle.dwg_show.specs.DrawingText.{other_line}
use Rattle.dwg_text.specs.Writing.{WritesText}
use Rattle.dwg_text.proofs.Elements.{written_of_seen}
use Rattle.dwg_show.proofs.drawing.write_others.Goals as goal

pub returns : goal.returns
returns g c = subst (WritesText _ _ _ _ _ _) (written_of_seen other_line other_value c.args.others.now) c.write_all.ensures

pub write_all-requires : goal.write_all-requires
write_all-requires g c = all_of_any c.args.others.now
