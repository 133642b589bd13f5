pub mod Limits
pub mod Texts
pub mod RuleTexts
pub mod Claims
pub mod Kind
pub mod Views
pub mod Terms
