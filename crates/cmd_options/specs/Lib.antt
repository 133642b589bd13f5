pub mod Outcome
pub mod Ends
pub mod Ranges
pub mod Kinds
pub mod Terms
