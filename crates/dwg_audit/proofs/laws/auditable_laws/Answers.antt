use Rattle.dwg_audit.proofs.Auditable.{can_be_audited}
use Rattle.dwg_audit.proofs.laws.auditable_laws.Goals as goal

pub returns : goal.returns
returns c = record { auditable = can_be_audited c.slot_laws.ensures.bound }
