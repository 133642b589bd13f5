pub mod FreeLaws
pub mod LiveLaws
pub mod Moments
pub mod Granting
pub mod Offering
