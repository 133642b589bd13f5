use Rattle.std.proofs.Common.{◌≡◌, false, subst}
use Rattle.std.specs.Ordering.{is_lt}
use Rattle.std.specs.declared.cmp.Ordering.{Ordering}
use Rattle.machine_text.proofs.Order.{order_of_texts}
use Rattle.ledger.proofs.BoardLaws.{open_table}
use Rattle.leases.specs.Leases.{IsFree}
use Rattle.leases.specs.inside.{as_leases, without}
use Rattle.leases.proofs.FreeLaws.{dropped}
use Rattle.leases.proofs.free_tables.first_free.Goals as goal

pub returns-then-is_free-clause-first : goal.returns-then-is_free-clause-first
returns-then-is_free-clause-first c =
    let t = c.in-Some.t in
    let b = c.args.board.now in
    let free = c.is_free.ensures.0 c.if-is_free.true in (
      free,
      λ q free_too. subst (λ (o : Ordering). is_lt o ≡ false)
          (order_of_texts q t (open_table b q c.child_is_table.ensures.below c.child_is_table.ensures.tree c.root.ensures.board free_too.0)
          (open_table b t c.child_is_table.ensures.below c.child_is_table.ensures.tree c.root.ensures.board free.0)) (c.in-Some.ensures.first q (c.loop-t.invariant q free_too)),
    )

pub loop-t-preserved : goal.loop-t-preserved
loop-t-preserved c = λ q free. dropped _ _ c.in-Some.t c.pop.result c.in-Some.ensures.top c.pop.ensures.top c.pop.ensures.others c.pop.ensures.none q (c.loop-t.invariant q free)
    (λ (e : q ≡ c.in-Some.t).
    let is_true = c.is_free.ensures.1 (subst (IsFree c.args.board.now (as_leases (without c.args.but c.args.live.now) c.args.came.now.entries 0 0)) e free) in
    let is_false = c.if-is_free.false in
    absurd (cc))
