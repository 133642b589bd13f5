pub mod Limits
pub mod Paths
pub mod Kind
pub mod inside
