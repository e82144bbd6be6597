pub mod KindTables
pub mod SameKinds
