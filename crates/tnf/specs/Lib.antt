pub mod Children
pub mod inside
