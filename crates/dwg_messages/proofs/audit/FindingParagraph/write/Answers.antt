use Rattle.std.proofs.Common.{ap, subst}
use Rattle.dwg_text.specs.Values.{upper_digits}
use Rattle.dwg_text.specs.Writing.{WritesText}
use Rattle.dwg_text.proofs.Writing.{◌▷◌}
use Rattle.dwg_messages.specs.AuditText.{finding_line}
use Rattle.dwg_messages.proofs.audit.FindingParagraph.write.Goals as goal

pub returns : goal.returns
unfolding finding_line
returns g c =
    c.write.ensures ▷ subst (WritesText _ _ _ _ _ _) (ap upper_digits c.value.ensures.value) c.write_value.ensures ▷ c.write-2.ensures
    ▷ subst (WritesText _ _ _ _ _ _) c.rule_word.ensures c.write-3.ensures ▷ c.write-4.ensures ▷ subst (WritesText _ _ _ _ _ _) c.field_text.ensures c.write-5.ensures ▷ c.write-6.ensures
    ▷ c.write_value-2.ensures ▷ c.write-7.ensures ▷ subst (WritesText _ _ _ _ _ _) (ap upper_digits c.value-2.ensures.value) c.write_value-3.ensures ▷ c.write-8.ensures
