use Rattle.std.proofs.Common.{rules, sym, ap, subst, inr, List, Contains, None, ◌≡◌}
use Rattle.machine_text.specs.Terms.{Packed}
use Rattle.cert.specs.Terms.{recorded}
use Rattle.ledger.specs.Terms.{Contents, same_table}
use Rattle.ledger.specs.declared.faults.OfferFault.TheVariants.{NoMemory}
use Rattle.leases.specs.Leases.{Leased, AreLeases, lease_of, TakesNew, TakesSettled}
use Rattle.leases.specs.inside.{as_leases, AreStored}
use Rattle.leases.proofs.FreeLaws.{Opens, opens_new, opens_settled, KeepsAll}
use Rattle.leases.proofs.Offering.{err_is, GoesOut, same_board, refused_board, holdout_not_open, free_new_leases, free_new_kept, free_new_takes, settled_leases, settled_kept, settled_takes}
use Rattle.leases.proofs.leased_board.LeasedBoard.offer_free.Goals as goal

pub returns-in_err-reserve-clause-offer : goal.returns-in_err-reserve-clause-offer
returns-in_err-reserve-clause-offer c = record {
  gives = inr (err_is c.from_residual.result NoMemory c.from_residual.ensures.1, ap (λ (s : Leased). s.board.records) c.self.view_is);
  line = search rules;
  kept = search rules;
}

pub invariant_of-self-in-Err : goal.invariant_of-self-in-Err
invariant_of-self-in-Err c =
    let same = same_board c.offer_line.new.self c.self.inside.board c.in-Err.ensures.kept.root (refused_board c.self.inside.board.root c.self.inside.board.records c.offer_line.new.self.records (recorded c.args.r.now) c.in-Err.fault c.in-Err.ensures.gives) c.in-Err.ensures.kept.format in (
      subst (λ (b : Contents). AreLeases b (as_leases c.self.inside.live c.self.inside.came_under.entries c.self.inside.moment c.self.inside.given) × AreStored b c.self.inside.live c.self.inside.came_under.entries c.reserve.new.self.tables) (sym same)
          (subst (λ (free : List Packed). AreLeases c.self.inside.board (as_leases c.self.inside.live c.self.inside.came_under.entries c.self.inside.moment c.self.inside.given) × AreStored c.self.inside.board c.self.inside.live c.self.inside.came_under.entries free) (sym c.in_ok-reserve.ensures.tables) c.self.invariant.0),
      c.self.invariant.1,
    )

pub invariant_of-self-in-Ok-New : goal.invariant_of-self-in-Ok-New
unfolding same_table
invariant_of-self-in-Ok-New c =
    let old = c.self.inside.board in
    let new = c.offer_line.new.self in
    let ls = c.self.inside.live in
    let came = c.self.inside.came_under.entries in
    let next = c.swap_remove.new.self.entries in
    let free = c.self.inside.free.tables in
    let more = c.free_children.new.free.tables in
    let t = c.args.r.now.table in
    let gives = rw c.in-Ok-New.field-0-is at c.in-Ok-New.ensures.gives in
    let opens : Opens old new t = opens_new old new (recorded c.args.r.now) c.child_is_table.ensures.below c.root.ensures.board c.in-Ok-New.ensures.kept.root c.in-Ok-New.ensures.kept.format gives.0 gives.1 in
    let keeps : KeepsAll free more = λ q h. c.free_children.ensures.more q (subst (λ (l : List Packed). Contains l q) (sym c.in_ok-reserve.ensures.tables) h) in
    let out : GoesOut came t next = λ q. c.swap_remove.ensures.updates.0 q in (
      (
        free_new_leases old new ls came next free more c.self.inside.moment c.self.inside.given t opens c.self.invariant.0.0 c.self.invariant.0.1 keeps c.free_children.ensures.all out,
        free_new_kept old new ls came next free more c.self.inside.moment c.self.inside.given t opens c.self.invariant.0.0 c.self.invariant.0.1 keeps c.free_children.ensures.all out,
      ),
      c.self.invariant.1,
    )

pub returns-in-Ok-New-clause-leases : goal.returns-in-Ok-New-clause-leases
unfolding same_table
returns-in-Ok-New-clause-leases c =
    let old = c.self.inside.board in
    let new = c.offer_line.new.self in
    let ls = c.self.inside.live in
    let came = c.self.inside.came_under.entries in
    let next = c.swap_remove.new.self.entries in
    let free = c.self.inside.free.tables in
    let more = c.free_children.new.free.tables in
    let t = c.args.r.now.table in
    let gives = rw c.in-Ok-New.field-0-is at c.in-Ok-New.ensures.gives in
    let opens : Opens old new t = opens_new old new (recorded c.args.r.now) c.child_is_table.ensures.below c.root.ensures.board c.in-Ok-New.ensures.kept.root c.in-Ok-New.ensures.kept.format gives.0 gives.1 in
    let keeps : KeepsAll free more = λ q h. c.free_children.ensures.more q (subst (λ (l : List Packed). Contains l q) (sym c.in_ok-reserve.ensures.tables) h) in
    let out : GoesOut came t next = λ q. c.swap_remove.ensures.updates.0 q in
    let none = subst (λ (s : Leased). lease_of s.leases t ≡ None) (sym c.self.view_is) c.requires in
    subst (λ (s : Leased). TakesNew t s (record { board = new; leases = as_leases ls next c.self.inside.moment c.self.inside.given })) c.self.view_is
    (free_new_takes old new ls came next free more c.self.inside.moment c.self.inside.given t opens c.self.invariant.0.0 c.self.invariant.0.1 keeps c.free_children.ensures.all out none)

pub invariant_of-self-in-Ok-Settled : goal.invariant_of-self-in-Ok-Settled
invariant_of-self-in-Ok-Settled c =
    let old = c.self.inside.board in
    let new = c.offer_line.new.self in
    let ls = c.self.inside.live in
    let came = c.self.inside.came_under.entries in
    let free = c.self.inside.free.tables in
    let more = c.free_children-in-Ok-Settled.new.free.tables in
    let t = c.args.r.now.table in
    let gives = rw c.in-Ok-Settled.field-0-is at c.in-Ok-Settled.ensures.gives in
    let opens : Opens old new t = opens_settled old new (recorded c.args.r.now) c.child_is_table.ensures.below c.root.ensures.board c.in-Ok-Settled.ensures.kept.root c.in-Ok-Settled.ensures.kept.format gives.0 gives.1 in
    let keeps : KeepsAll free more = λ q h. c.free_children-in-Ok-Settled.ensures.more q (subst (λ (l : List Packed). Contains l q) (sym c.in_ok-reserve.ensures.tables) h) in (
      (
        settled_leases old new ls came came free more c.self.inside.moment c.self.inside.given t opens c.self.invariant.0.0 c.self.invariant.0.1 keeps c.free_children-in-Ok-Settled.ensures.all (holdout_not_open old t gives.0.is_holdout),
        settled_kept old new ls came came free more c.self.inside.moment c.self.inside.given t opens c.self.invariant.0.0 c.self.invariant.0.1 keeps c.free_children-in-Ok-Settled.ensures.all,
      ),
      c.self.invariant.1,
    )

pub returns-in-Ok-Settled-clause-leases : goal.returns-in-Ok-Settled-clause-leases
returns-in-Ok-Settled-clause-leases c =
    let old = c.self.inside.board in
    let new = c.offer_line.new.self in
    let ls = c.self.inside.live in
    let came = c.self.inside.came_under.entries in
    let free = c.self.inside.free.tables in
    let more = c.free_children-in-Ok-Settled.new.free.tables in
    let t = c.args.r.now.table in
    let gives = rw c.in-Ok-Settled.field-0-is at c.in-Ok-Settled.ensures.gives in
    let opens : Opens old new t = opens_settled old new (recorded c.args.r.now) c.child_is_table.ensures.below c.root.ensures.board c.in-Ok-Settled.ensures.kept.root c.in-Ok-Settled.ensures.kept.format gives.0 gives.1 in
    let keeps : KeepsAll free more = λ q h. c.free_children-in-Ok-Settled.ensures.more q (subst (λ (l : List Packed). Contains l q) (sym c.in_ok-reserve.ensures.tables) h) in
    subst (λ (s : Leased). TakesSettled s (record { board = new; leases = as_leases ls came c.self.inside.moment c.self.inside.given })) c.self.view_is
    (settled_takes old new ls came came free more c.self.inside.moment c.self.inside.given t opens c.self.invariant.0.0 c.self.invariant.0.1 keeps c.free_children-in-Ok-Settled.ensures.all)
