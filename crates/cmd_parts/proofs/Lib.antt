pub mod SettledTables
pub mod SplitTrees
pub mod JoinedParts
mod TakenLedgers
mod ToldLedgers
pub mod FolderAnswers
