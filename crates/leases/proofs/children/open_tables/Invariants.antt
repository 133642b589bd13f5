use Rattle.std.proofs.Common.{◌⊎◌, Contains}
use Rattle.machine_text.specs.Terms.{Packed}
use Rattle.ledger.specs.Terms.{IsOpenOn}
use Rattle.leases.proofs.children.open_tables.Given as goal

abbrev pub invariant-loop-t : goal.invariant-loop-t
invariant-loop-t l = (t : Packed) → IsOpenOn l.board t → Contains l.free.tables t ⊎ Contains l.t-iterator t
