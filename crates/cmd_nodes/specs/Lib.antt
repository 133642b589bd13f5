pub mod Faults
pub mod Moving
pub mod Served
pub mod Settled
pub mod inside
pub mod Terms
