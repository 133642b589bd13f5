use Rattle.std.proofs.Common.{◌≡◌, subst, arith}
use Rattle.far.specs.inside.Reading.{AreEdges}
use Rattle.far.proofs.Digits.{edges_more, edges_all, no_number}
use Rattle.far.proofs.numbers.rows_of.Goals as goal

pub returns-in_err-rows-clause-none : goal.returns-in_err-rows-clause-none
returns-in_err-rows-clause-none c = rw c.from_residual-in_err-rows.ensures (λ rows. no_number _ _ _ _ _ _ _ _ c.loop-k-test.true c.in_ok-part.ensures c.in_err-rows.ensures.none c.loop-k.invariant rows)

pub loop-k-preserved : goal.loop-k-preserved
loop-k-preserved c = edges_more _ _ _ _ _ _ _ _ (omega arith) c.in_ok-part.ensures c.in_ok-rows.ensures.some.0 c.in_ok-rows.ensures.some.1 c.loop-k.invariant

pub returns-in-None-clause-some : goal.returns-in-None-clause-some
returns-in-None-clause-some c =
    let end : c.loop-k.k ≡ c.args.count = omega arith in
    edges_all _ _ _ _ _ c.in-None.ensures.0 (subst (λ k. AreEdges c.args.limit c.args.text.now k c.loop-k.parts c.loop-k.rows) end c.loop-k.invariant)
