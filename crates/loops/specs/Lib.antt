pub mod Limits
pub mod Kinds
pub mod inside
pub mod Terms
