pub mod Traffic
pub mod NodeRounds
pub mod Coordinators
