-- The grammar of items: what each code byte is followed by.
pub mod Items
-- Bytes that are items one after the other, and which items can be written.
pub mod ItemLists
-- Items byte by byte: what each code byte is followed by.
pub mod ItemTable
-- An item at the begin of bytes: what is read of it, and how many bytes that are.
pub mod ItemPrefix
-- What the references of items fail: layers and objects that aren't there.
pub mod AppFindings
-- What a finding says: which item stands where, and that its reference leads nowhere.
pub mod AppFailures
-- That the findings are exactly these, and in order.
pub mod AppFindingLaws
-- How often the handles of items are looked up.
pub mod ItemLookups
