pub mod Limits
pub mod Text
pub mod Packed
pub mod inside
pub mod Terms
