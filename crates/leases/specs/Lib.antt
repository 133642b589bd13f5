pub mod Limits
pub mod Leases
pub mod inside
pub mod Terms
