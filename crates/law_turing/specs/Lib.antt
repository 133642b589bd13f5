pub mod Run
pub mod Halting
pub mod NeverHalting
pub mod Terms
