pub mod Paths
pub mod Terms
