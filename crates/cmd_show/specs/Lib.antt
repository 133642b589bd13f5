pub mod Shown
pub mod Drawn
pub mod inside
pub mod Terms
