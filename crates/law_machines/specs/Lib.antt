pub mod Counted
pub mod Zipper
pub mod Tables
pub mod Terms
