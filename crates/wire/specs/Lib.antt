pub mod Limits
pub mod Fulfilled
pub mod Message
pub mod inside
pub mod Terms
