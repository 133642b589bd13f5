pub mod PathLaws
pub mod Counting
pub mod KindLaws
