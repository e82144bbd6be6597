pub mod MemberLoops
pub mod MarkParts
