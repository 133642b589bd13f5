use Rattle.std.proofs.Common.{nat_eq, refl, ap, Some}
use Rattle.leases.specs.Leases.{Leased}
use Rattle.leases.proofs.Granting.{seen_ended, ended_holds}
use Rattle.leases.proofs.Moments.{without_not_ahead}
use Rattle.leases.proofs.leased_board.LeasedBoard.end.Goals as goal

pub invariant_of-self-2 : goal.invariant_of-self-2
invariant_of-self-2 c = (
  ended_holds c.self.inside.board (λ l. nat_eq l.number c.args.number) c.self.inside.live c.self.inside.live c.end.new.self c.self.inside.came_under.entries c.self.inside.came_under.entries
      c.self.inside.free.tables c.free_tables_of.new.free.tables c.self.inside.moment c.self.inside.given refl refl c.end.ensures c.in_ok-free_tables_of.ensures.more c.in_ok-free_tables_of.ensures.ok c.self.invariant.0,
  without_not_ahead (Some c.args.number) c.self.inside.moment c.self.inside.live c.end.new.self c.end.ensures c.self.invariant.1,
)

pub returns-clause-ok : goal.returns-clause-ok
returns-clause-ok c =
    rw (← ap (λ (s : Leased). s.leases) c.self.view_is)
    (seen_ended (λ l. nat_eq l.number c.args.number) c.self.inside.live c.end.new.self c.self.inside.came_under.entries c.self.inside.moment c.self.inside.given c.end.ensures)
