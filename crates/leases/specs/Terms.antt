-- The terms of this crate: what others cite of its definitions, under one name.
pub use Rattle.leases.specs.Leases.{AreLeases, Asks, IsDone, Leased, LeasesAfter, SomeEnds, is_live, no_leases, ticked}
