pub mod Limits
pub mod Cells
pub mod inside
pub mod Terms
