pub mod PageLaws
pub mod PageTexts
pub mod SummedLedgers
