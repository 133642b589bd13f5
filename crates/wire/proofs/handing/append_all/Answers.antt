use Rattle.std.proofs.Common.{rules, ◌∙◌, ap, ◌-◌, List, ℕ, take, drop, length}
use Rattle.std.specs.Prelude.{Option}
use Rattle.std.proofs.lemmas.Result.{err_from_is_err_and}
use Rattle.wire.specs.Fulfilled.{grown}
use Rattle.wire.proofs.Answers.{grown_part, begun_part, within_part}
use Rattle.wire.proofs.handing.append_all.Goals as goal

pub returns-in_err-count-clause-err : goal.returns-in_err-count-clause-err
returns-in_err-count-clause-err g c =
    let p = err_from_is_err_and c.from_residual.result c.from_residual.ensures.1 in
    rw p.1 (search rules, begun_part _ _ _ _ _ c.calls.invariant.grown_is c.in_err-count.ensures.err.1)

pub calls-preserved : goal.calls-preserved
calls-preserved g c = record {
  within = within_part c.args.bytes.now c.calls.done c.in_ok-count.count c.calls.invariant.within c.in_ok-count.ensures.took.0;
  grown_is =
      c.in_ok-count.ensures.took.1
      ∙ ap (λ (o : Option (List ℕ)). grown o (take c.in_ok-count.count (take (length c.args.bytes.now - c.calls.done) (drop c.calls.done c.args.bytes.now)))) c.calls.invariant.grown_is
      ∙ grown_part (g.W.LedgerOut.text c.args.ledger.now) c.args.bytes.now c.calls.done c.in_ok-count.count;
  count = c.in_ok-count.ensures.count.1 (λ none. c.if-count-eq0.false none.0) ∙ c.calls.invariant.count;
}
