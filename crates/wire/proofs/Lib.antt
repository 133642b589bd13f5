pub mod LineLaws
pub mod MessageTexts
pub mod Answers
