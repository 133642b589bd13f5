pub mod CycleLaws
pub mod KindLaws
