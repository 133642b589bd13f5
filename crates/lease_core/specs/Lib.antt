pub mod Starts
pub mod Says
pub mod CoordinatorRules
pub mod Limits
pub mod WorkerState
pub mod WorkerRules
pub mod inside
pub mod Terms
