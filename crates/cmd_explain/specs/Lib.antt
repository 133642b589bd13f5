pub mod Explained
pub mod Why
pub mod inside
pub mod Terms
