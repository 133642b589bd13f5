use Rattle.std.proofs.Common.{sym, ap, refl, arith}
use Rattle.loops.specs.inside.{Moment, IsMomentOf}
use Rattle.loops.proofs.CycleLaws.{same_cycle, cycle_at}
use Rattle.loops.proofs.cycles.CycleWatchWatch.visit.Goals as goal

pub returns-then-has_come_back-clause-found : goal.returns-then-has_come_back-clause-found
returns-then-has_come_back-clause-found c =
    let as_was = c.if-has_come_back.ensures.kept in
    let moment : IsMomentOf c.args.runner.now.table c.has_come_back.new.self.kept = rw as_was c.requires.seen.0 in
    let earlier = ap (λ (m : Moment). m.time) as_was in (
      cycle_at _ _ _ _ _ (sym c.time.ensures) (sym c.steps.ensures.steps)
          (same_cycle c.args.runner.now.table c.has_come_back.new.self.kept c.args.runner.now moment refl c.steps.ensures.stands (omega (arith, c.requires.seen.1)) c.if-has_come_back.ensures.same),
      c.steps.ensures.steps,
    )
