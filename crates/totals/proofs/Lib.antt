pub mod SingleRecords
pub mod Walks
pub mod TrunkAndParts
pub mod Wholes
pub mod ToldRecords
