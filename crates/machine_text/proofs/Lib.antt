pub mod Reading
pub mod Tables
pub mod Rows
pub mod RoundTrip
pub mod Order
