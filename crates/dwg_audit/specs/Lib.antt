-- What an audit finds, by a test for each rule.
pub mod Findings
-- What a finding says: which part of a sound drawing fails, and of which object.
pub mod Failures
-- How many probes lookups take, and where the references of objects lead.
pub mod Lookups
-- What an audit asks of objects, and that those of a valid drawing are such.
pub mod Auditable
-- The findings of a drawing whose handles ascend are exactly its failures, and there are none exactly where it is sound.
pub mod FindingLaws
-- The findings of a drawing stand in order, each strictly before those after it, and no other list has just these in that order.
pub mod FindingOrder
-- The slots of applications, and all others.
pub mod Held
-- What is known of all objects before the first of them is judged.
pub mod Tabled
-- What the tables say of one object.
pub mod ObjectFacts
