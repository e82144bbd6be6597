use Rattle.std.proofs.Common.{ap, subst}
use Rattle.dwg_text.specs.Values.{upper_digits}
use Rattle.dwg_text.specs.Writing.{WritesText}
use Rattle.dwg_text.proofs.Writing.{◌▷◌}
use Rattle.dwg_messages.specs.AppText.{app_finding_line}
use Rattle.dwg_messages.proofs.app_findings.AppFindingParagraph.write.Goals as goal

pub returns : goal.returns
unfolding app_finding_line
returns g c =
    c.write.ensures ▷ subst (WritesText _ _ _ _ _ _) (ap upper_digits c.value.ensures.value) c.write_value.ensures ▷ c.write-2.ensures ▷ c.write_value-2.ensures ▷ c.write-3.ensures
    ▷ c.write_value-3.ensures ▷ c.write-4.ensures ▷ c.write_value-4.ensures ▷ c.write-5.ensures
