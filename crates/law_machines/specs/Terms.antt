-- The terms of this crate: what others cite of its definitions, under one name.
pub use Rattle.law_machines.specs.Counted.{Coset, CountedStand, CountedSystem, Delta, HasCoset, IsMember, IsOf, IsSum, IsUnused, Item, LeadsOn, Members, Negative, None_remains, Point, Reading, Remains, Settled, begun, delta, further, less, moved_to, once, state_on, zeros}
unfoldable pub use Rattle.law_machines.specs.Counted.{reading}
unfoldable pub use Rattle.law_machines.specs.Tables.{table_text}
pub use Rattle.law_machines.specs.Zipper.{AtLeft, AtRight, Comes, Describes, Goes, SameCells, Zipper, blank_zipper, moved_from, repeat, stepped, symbol_at}
unfoldable pub use Rattle.law_machines.specs.Zipper.{steps}
