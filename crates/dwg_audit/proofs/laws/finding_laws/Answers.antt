use Rattle.dwg_audit.proofs.FindingLaws.{findings_stand, none_if_sound}
use Rattle.dwg_audit.proofs.FindingOrder.{whole_findings_ordered}
use Rattle.dwg_audit.proofs.OneFindings.{findings_determined}
use Rattle.dwg_audit.proofs.laws.finding_laws.Goals as goal

pub returns : goal.returns
returns c =
    let ordered = whole_findings_ordered c.slot_laws.ensures.ordered in
    record { stands = findings_stand; sound = none_if_sound; ordered = ordered; one = findings_determined ordered }
