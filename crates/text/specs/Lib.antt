pub mod Limits
pub mod Fields
pub mod inside
pub mod Terms
