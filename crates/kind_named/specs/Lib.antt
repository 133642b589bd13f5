pub mod Kind
pub mod inside
pub mod Terms
