pub mod Limits
pub mod Claim
pub mod Certified
pub mod Grammar
pub mod Kinds
pub mod Terms
