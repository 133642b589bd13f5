pub mod Asked
pub mod Terms
