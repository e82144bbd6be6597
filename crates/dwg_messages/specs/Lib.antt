-- What is printed of a certificate before a drawing.
pub mod Acceptance
-- The line by which an audit ends.
pub mod Verdict
-- The text of an audit.
pub mod AuditText
-- The notes of a recovery.
pub mod RecoveryNote
-- The text of the extended data of a drawing.
pub mod AppText
-- The text of a drill.
pub mod DrillText
