pub mod RunLaws
pub mod Renaming
pub mod Cycles
pub mod BackwardLaws
pub mod Listed
pub mod ClosedSets
pub mod AutomataLaws
pub mod LevelLaws
