pub mod AnsweredLines
pub mod AnsweredPieces
pub mod Firsts
pub mod ChangedTables
pub mod Unchanged
