-- The terms of this crate: what others cite of its definitions, under one name.
pub use Rattle.files.specs.Paths.{Bytes, IsBlank, IsFileAt, IsKept, IsKeptBut, IsLedgerAt, IsLedgerOn, IsOpenedOn, IsPut, IsToldStill, Known, Missing, SameFile, Shelf, Unknown, held_bytes}
