use Rattle.std.proofs.Common.{◌+◌, length, refl, arith}
use Rattle.std.proofs.lemmas.Result.{err_from_is_err_and}
use Rattle.cmd_ledgers.specs.Terms.{AtSomeTime}
use Rattle.cmd_parts.specs.Settle.{IsOpenBelow}
use Rattle.cmd_parts.proofs.SettledTables.{many_more_settled, part_all, part_more}
use Rattle.cmd_parts.proofs.settle.settle_below.Goals as goal

pub returns-in_err-due-clause-leaves : goal.returns-in_err-due-clause-leaves
returns-in_err-due-clause-leaves g c =
    let A = AtSomeTime _ g.D.Decider.answers in
    let p = err_from_is_err_and c.from_residual.result c.from_residual.ensures.1 in
    rw p.1 (part_all A (IsOpenBelow c.args.limit) 0 _ _ _ _ (refl, refl))

pub returns-in_err-settle_all-clause-leaves : goal.returns-in_err-settle_all-clause-leaves
returns-in_err-settle_all-clause-leaves g c =
    let A = AtSomeTime _ g.D.Decider.answers in
    let IsDue = IsOpenBelow c.args.limit in
    let (k, many, number, step, due) = c.rounds.invariant in
    let p = err_from_is_err_and c.from_residual-in_err-settle_all.result c.from_residual-in_err-settle_all.ensures.1 in
    rw p.1 (part_more A IsDue k _ _ _ _ _ _ many c.in_err-settle_all.ensures.leaves)

pub returns-in_err-due-2-clause-leaves : goal.returns-in_err-due-2-clause-leaves
returns-in_err-due-2-clause-leaves g c =
    let A = AtSomeTime _ g.D.Decider.answers in
    let IsDue = IsOpenBelow c.args.limit in
    let (k, many, number, step, due) = c.rounds.invariant in
    let j = length c.deref.result.now in
    let p = err_from_is_err_and c.from_residual-in_err-due-2.result c.from_residual-in_err-due-2.ensures.1 in
    let all = many_more_settled A IsDue k j (k + j) _ _ _ _ _ _ refl many c.in_ok-settle_all.ensures.settled in
    rw p.1 (part_all A IsDue (k + j) _ _ _ _ all)

pub rounds-preserved : goal.rounds-preserved
rounds-preserved g c =
    let A = AtSomeTime _ g.D.Decider.answers in
    let IsDue = IsOpenBelow c.args.limit in
    let (k, many, number, step, due) = c.rounds.invariant in
    let j = length c.deref.result.now in
    let took = c.in_ok-settle_all.ensures in (
      k + j,
      many_more_settled A IsDue k j (k + j) _ _ _ _ _ _ refl many took.settled,
      omega (arith, number, took.records),
      λ s. took.step (step s),
      c.in_ok-due-2.ensures,
    )
