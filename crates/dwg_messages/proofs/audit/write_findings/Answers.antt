use Rattle.dwg_text.proofs.Writing.{◌▷◌}
use Rattle.dwg_messages.specs.AuditText.{audit_text}
use Rattle.dwg_messages.proofs.audit.write_findings.Goals as goal

pub returns : goal.returns
unfolding audit_text
returns g c = c.write_all.ensures ▷ c.write_verdict.ensures
