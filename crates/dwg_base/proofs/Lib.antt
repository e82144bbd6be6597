pub mod ByteLists
pub mod SendingLemmas
pub mod Sending
pub mod Giving
pub mod RangeSearch
pub mod FirstItem
pub mod OneOfAll
