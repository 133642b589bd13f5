use Rattle.std.proofs.Common.{◌≡◌, ◌+◌, ◌<◌, refl, sym, ◌∙◌, ap, subst, List, map, length}
use Rattle.std.proofs.lemmas.List.{length-map}
use Rattle.machine_text.specs.Terms.{Packed}
use Rattle.ledger.specs.Terms.{same_table}
use Rattle.leases.specs.Leases.{IsFree}
use Rattle.leases.specs.inside.{StoredLease, stored_lease, as_lease, as_leases, without}
use Rattle.leases.specs.declared.held_leases.Reply.TheVariants.{Stop, Later, Grant}
use Rattle.leases.proofs.Granting.{below_next, ended_kept, granted, granted_kept, none_kept, others_hold, own_ends, refused_holds, asks_by}
use Rattle.leases.proofs.Moments.{same_not_ahead}
use Rattle.leases.proofs.leased_board.LeasedBoard.ask.Goals as goal

pub invariant_of-self-then-not-has_open : goal.invariant_of-self-then-not-has_open
invariant_of-self-then-not-has_open c =
    ended_kept c.self.inside.board c.args.id c.of_worker-own.result c.self.inside.live c.self.inside.came_under.entries c.self.inside.free.tables c.free_tables_of.new.free.tables c.self.inside.moment c.self.inside.given
    c.of_worker-own.ensures c.in_ok-free_tables_of.ensures.more c.in_ok-free_tables_of.ensures.ok c.self.invariant c.end.new.self c.end.ensures

pub returns-then-not-has_open-clause-ok : goal.returns-then-not-has_open-clause-ok
returns-then-not-has_open-clause-ok c =
    asks_by c.args.self.now c.self.inside.board c.args.id c.self.inside.live c.self.inside.live c.end.new.self c.self.inside.came_under.entries c.self.inside.came_under.entries c.self.inside.moment c.self.inside.given refl refl
    (own_ends c.args.id c.of_worker-own.result c.self.inside.live c.end.new.self c.of_worker-own.ensures c.end.ensures) c.self.view_is Stop _ (c.has_open.ensures.none c.if-not-has_open.true, refl)

pub invariant_of-self-then-not-may_grant : goal.invariant_of-self-then-not-may_grant
invariant_of-self-then-not-may_grant c =
    ended_kept c.self.inside.board c.args.id c.of_worker-own.result c.self.inside.live c.self.inside.came_under.entries c.self.inside.free.tables c.free_tables_of.new.free.tables c.self.inside.moment c.self.inside.given
    c.of_worker-own.ensures c.in_ok-free_tables_of.ensures.more c.in_ok-free_tables_of.ensures.ok c.self.invariant c.end-then-not-may_grant.new.self c.end-then-not-may_grant.ensures

pub returns-then-not-may_grant-clause-ok : goal.returns-then-not-may_grant-clause-ok
returns-then-not-may_grant-clause-ok c =
    let kept_ones = c.end-then-not-may_grant.new.self in
    let count : length (map as_lease kept_ones) ≡ c.len_without.result = length-map kept_ones as_lease ∙ (ap length c.end-then-not-may_grant.ensures ∙ sym c.len_without.ensures) in
    asks_by c.args.self.now c.self.inside.board c.args.id c.self.inside.live c.self.inside.live kept_ones c.self.inside.came_under.entries c.self.inside.came_under.entries c.self.inside.moment c.self.inside.given refl refl
    (own_ends c.args.id c.of_worker-own.result c.self.inside.live kept_ones c.of_worker-own.ensures c.end-then-not-may_grant.ensures) c.self.view_is Later _ (
      c.has_open.ensures.some c.if-not-has_open.false,
      λ may t free.
          let may_grant = c.may_grant.ensures.1 (subst (λ n. n < 4096) count may.0, may.1) in
          let may_not = c.if-not-may_grant.true in
          absurd (cc),
      refl,
    )

pub first_free-requires : goal.first_free-requires
first_free-requires c =
    let hold = others_hold c.self.inside.board c.args.id c.of_worker-own.result c.self.inside.live c.self.inside.came_under.entries c.self.inside.free.tables c.free_tables_of.new.free.tables c.self.inside.moment c.self.inside.given
    c.of_worker-own.ensures c.in_ok-free_tables_of.ensures.more c.in_ok-free_tables_of.ensures.ok c.self.invariant c.self.inside.came_under.entries refl in
    λ q free. hold.1.freed q free.0 free.1

pub invariant_of-self-in_err-tables-in-Some : goal.invariant_of-self-in_err-tables-in-Some
invariant_of-self-in_err-tables-in-Some c = (
  refused_holds c.self.inside.board c.of_worker-own.result c.self.inside.live c.self.inside.live c.self.inside.came_under.entries c.self.inside.came_under.entries c.self.inside.free.tables c.first_free.new.free.tables
      c.self.inside.moment c.self.inside.given refl refl c.first_free.ensures.kept c.self.invariant.0,
  c.self.invariant.1,
)

pub invariant_of-self-in_err-reserve-in-Some : goal.invariant_of-self-in_err-reserve-in-Some
invariant_of-self-in_err-reserve-in-Some c = (
  refused_holds c.self.inside.board c.of_worker-own.result c.self.inside.live c.self.inside.live c.self.inside.came_under.entries c.reserve.new.self.entries c.self.inside.free.tables c.first_free.new.free.tables
      c.self.inside.moment c.self.inside.given refl c.reserve.ensures.entries c.first_free.ensures.kept c.self.invariant.0,
  c.self.invariant.1,
)

pub replace-requires-clause-last : goal.replace-requires-clause-last
replace-requires-clause-last c = below_next c.self.inside.board c.self.inside.live c.self.inside.came_under.entries c.self.inside.moment c.self.inside.given c.self.invariant.0.0

pub invariant_of-self-in_err-replace-in-Some : goal.invariant_of-self-in_err-replace-in-Some
invariant_of-self-in_err-replace-in-Some c = (
  refused_holds c.self.inside.board c.of_worker-own.result c.self.inside.live c.replace.new.self c.self.inside.came_under.entries c.reserve.new.self.entries c.self.inside.free.tables c.first_free.new.free.tables
      c.self.inside.moment c.self.inside.given c.in_err-replace-in-Some.ensures.err c.reserve.ensures.entries c.first_free.ensures.kept c.self.invariant.0,
  same_not_ahead c.self.inside.moment c.self.inside.live c.replace.new.self c.in_err-replace-in-Some.ensures.err c.self.invariant.1,
)

pub invariant_of-self-in-Some : goal.invariant_of-self-in-Some
unfolding same_table
invariant_of-self-in-Some c =
    let l : StoredLease = stored_lease (record { number = c.self.inside.given + 1; id = c.args.id; renewed = c.self.inside.moment; tables = c.in_ok-tables-in-Some.tables }) in
    let others = without c.of_worker-own.result c.self.inside.live in
    let count : length (map as_lease others) ≡ c.len_without.result = length-map others as_lease ∙ sym c.len_without.ensures in
    let may = c.may_grant.ensures.0 c.if-not-may_grant.false in
    granted_kept c.self.inside.board c.args.id c.of_worker-own.result c.self.inside.live c.self.inside.came_under.entries c.self.inside.free.tables c.free_tables_of.new.free.tables c.self.inside.moment c.self.inside.given
    c.of_worker-own.ensures c.in_ok-free_tables_of.ensures.more c.in_ok-free_tables_of.ensures.ok c.self.invariant c.reserve.new.self.entries c.insert.new.self.entries l c.in-Some.table c.replace.new.self c.in_ok-reserve-in-Some.ensures.entries refl refl refl
    (λ q. c.in-Ok.ensures.updates.0 q) c.in_ok-replace-in-Some.ensures.ok
    c.first_free.new.free.tables c.drop_first.new.self.tables (subst (λ n. n < 4096) (sym count) may.0) c.in-Some.ensures.first.0.0 c.in_ok-tables-in-Some.ensures c.first_free.ensures.kept c.drop_first.ensures

pub invariant_of-self-in-None : goal.invariant_of-self-in-None
invariant_of-self-in-None c =
    none_kept c.self.inside.board c.args.id c.of_worker-own.result c.self.inside.live c.self.inside.came_under.entries c.self.inside.free.tables c.free_tables_of.new.free.tables c.self.inside.moment c.self.inside.given
    c.of_worker-own.ensures c.in_ok-free_tables_of.ensures.more c.in_ok-free_tables_of.ensures.ok c.self.invariant c.end-in-None.new.self c.first_free.new.free.tables c.end-in-None.ensures c.in-None.ensures.none

pub returns-in-Ok-clause-ok : goal.returns-in-Ok-clause-ok
unfolding same_table
returns-in-Ok-clause-ok c =
    let l : StoredLease = stored_lease (record { number = c.self.inside.given + 1; id = c.args.id; renewed = c.self.inside.moment; tables = c.in_ok-tables-in-Some.tables }) in
    let others = without c.of_worker-own.result c.self.inside.live in
    let count : length (map as_lease others) ≡ c.len_without.result = length-map others as_lease ∙ sym c.len_without.ensures in
    let may = c.may_grant.ensures.0 c.if-not-may_grant.false in
    let given = granted c.self.inside.board c.args.id c.of_worker-own.result c.self.inside.live c.self.inside.came_under.entries c.self.inside.free.tables c.free_tables_of.new.free.tables c.self.inside.moment c.self.inside.given
    c.of_worker-own.ensures c.in_ok-free_tables_of.ensures.more c.in_ok-free_tables_of.ensures.ok c.self.invariant c.reserve.new.self.entries c.insert.new.self.entries l c.in-Some.table c.replace.new.self c.in_ok-reserve-in-Some.ensures.entries refl refl refl
    (λ q. c.in-Ok.ensures.updates.0 q) c.in_ok-replace-in-Some.ensures.ok c.in-Some.ensures.first in
    asks_by c.args.self.now c.self.inside.board c.args.id c.self.inside.live c.self.inside.live others c.self.inside.came_under.entries c.reserve.new.self.entries c.self.inside.moment c.self.inside.given
    refl c.in_ok-reserve-in-Some.ensures.entries (own_ends c.args.id c.of_worker-own.result c.self.inside.live others c.of_worker-own.ensures refl) c.self.view_is (Grant (c.self.inside.given + 1) c.in-Some.table) _
    ((subst (λ n. n < 4096) (sym count) may.0, may.1), refl, given.0, given.1)

pub returns-in-None-clause-ok : goal.returns-in-None-clause-ok
returns-in-None-clause-ok c =
    let ls = c.self.inside.live in
    let before = c.self.inside.came_under.entries in
    let kept_ones = c.end-in-None.new.self in
    let none = subst (λ (live : List StoredLease). (q : Packed) → IsFree c.self.inside.board (as_leases live before 0 0) q → ⊥) (sym c.end-in-None.ensures) c.in-None.ensures.none in
    asks_by c.args.self.now c.self.inside.board c.args.id ls ls kept_ones before before c.self.inside.moment c.self.inside.given refl refl
    (own_ends c.args.id c.of_worker-own.result ls kept_ones c.of_worker-own.ensures c.end-in-None.ensures) c.self.view_is Later _ (c.has_open.ensures.some c.if-not-has_open.false, λ may. none, refl)
