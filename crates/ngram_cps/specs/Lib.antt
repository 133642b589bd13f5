pub mod Limits
pub mod Words
pub mod Lists
pub mod Kind
pub mod inside
pub mod Terms
