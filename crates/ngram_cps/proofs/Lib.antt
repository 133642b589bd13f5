pub mod Closed
pub mod Texts
pub mod KindLaws
