-- The terms of this crate: what others cite of its definitions, under one name.
pub use Rattle.lease_core.specs.CoordinatorRules.{Coordinating, DoneRow, HeldGives, MessageRow, On, RecordRow}
pub use Rattle.lease_core.specs.Says.{board_of}
pub use Rattle.lease_core.specs.Starts.{HeldInStep, InStep, StartsFrom, started}
