-- The terms of this crate: what others cite of its definitions, under one name.
pub use Rattle.tape.specs.Cells.{Crosses, HoldsCells, IsWithinLimit, MaySweep, SameBeyond, SameBut, Sweeps, bit_symbol, last_place, place_beyond}
unfoldable pub use Rattle.tape.specs.Cells.{swept}
