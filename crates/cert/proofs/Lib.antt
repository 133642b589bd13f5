pub mod RecordTexts
pub mod Claims
