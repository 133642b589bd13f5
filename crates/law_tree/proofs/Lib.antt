pub mod Filling
pub mod Used
pub mod ChildEntries
pub mod Extensions
pub mod TreeLaws
pub mod TableLaws
pub mod ChildTables
