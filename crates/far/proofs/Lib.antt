pub mod Edges
pub mod Digits
pub mod Written
pub mod KindLaws
pub mod Listing
pub mod ListedEdges
pub mod WellRead
