use Rattle.dwg_appitems.proofs.AppFindingLaws.{app_findings_stand, none_if_nothing_fails}
use Rattle.dwg_appitems.proofs.OneFindings.{app_findings_determined}
use Rattle.dwg_appitems.proofs.OrderedFindings.{app_findings_ordered}
use Rattle.dwg_appitems.proofs.laws.app_finding_laws.Goals as goal

pub returns : goal.returns
returns c = record { stands = app_findings_stand; none = none_if_nothing_fails; ordered = app_findings_ordered; one = app_findings_determined }
