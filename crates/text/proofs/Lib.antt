pub mod Cuts
pub mod DecimalFields
