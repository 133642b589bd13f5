-- What the crate's own code needs to say of its steps; no public contract speaks of it.
pub mod Steps
pub mod Reading
pub mod Unpacked
pub mod ListedUnpacked
