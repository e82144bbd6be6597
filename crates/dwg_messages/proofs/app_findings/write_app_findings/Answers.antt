use Rattle.dwg_text.proofs.Writing.{◌▷◌}
use Rattle.dwg_messages.specs.AppText.{findings_text}
use Rattle.dwg_messages.proofs.app_findings.write_app_findings.Goals as goal

pub returns : goal.returns
unfolding findings_text
returns g c = c.write_all.ensures ▷ c.write_verdict.ensures
