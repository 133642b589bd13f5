pub mod Tree
pub mod Terms
