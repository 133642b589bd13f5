-- What only the code of this crate needs.
pub mod Counting
pub mod Kept
pub mod Stored
pub mod Trees
pub mod Waiting
pub mod Taking
