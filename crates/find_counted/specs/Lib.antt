pub mod Limits
pub mod Findings
