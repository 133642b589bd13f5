pub mod Limits
pub mod Halts
pub mod Steps
pub mod inside
pub mod Terms
