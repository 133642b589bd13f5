pub mod Verdict
pub mod Terms
