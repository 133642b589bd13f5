pub mod Known
pub mod inside
pub mod Terms
