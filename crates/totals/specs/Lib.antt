pub mod Totals
pub mod inside
pub mod Terms
