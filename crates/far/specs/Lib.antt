pub mod Limits
pub mod Texts
pub mod Kind
pub mod Claims
pub mod ListedTexts
pub mod inside
pub mod Terms
