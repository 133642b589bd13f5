pub mod PackedCells
pub mod WordBits
pub mod Sweeps
pub mod Halves
