use Rattle.std.proofs.Common.{refl, subst}
use Rattle.dwg_object.specs.Objects.{value_of}
use Rattle.dwg_text.specs.Writing.{WritesText}
use Rattle.dwg_text.proofs.Elements.{written_of_seen}
use Rattle.dwg_text.proofs.Writing.{◌▷◌, written_whole}
use Rattle.dwg_messages.specs.AppText.{appdata_text, apps_text}
use Rattle.dwg_messages.proofs.app_objects.appdata.Goals as goal

pub returns-clause-bytes : goal.returns-clause-bytes
unfolding appdata_text
returns-clause-bytes g c =
    written_whole c.new-writer.result c.end.new.self _ _ _ _ _ _ c.end.result c.new-writer.ensures.piece c.new-writer.ensures.fault refl
    (subst (WritesText _ _ _ _ _ _) (written_of_seen apps_text value_of c.args.objects.now) c.write_all.ensures ▷ c.write_app_findings.ensures ▷ c.end.ensures.written)
    c.end.ensures.whole c.end.ensures.cut
