use Rattle.std.proofs.Common.{List, ℕ, Option, IfSome, inl, inr, sym, subst}
use Rattle.std.proofs.lemmas.Result.{err_from_is_err_and}
use Rattle.ledger.specs.Terms.{IsLedgerOf}
use Rattle.cmd_ledgers.specs.Retry.{AreRetried, AtSomeTime, LeavesRetried}
use Rattle.cmd_ledgers.proofs.TreeReports.{if_ok, on_err}
use Rattle.cmd_ledgers.proofs.RetriedLedgers.{cut_reads, left_retried}
use Rattle.cmd_ledgers.proofs.retry.retry_loaded.Goals as goal

pub returns-clause-retries : goal.returns-clause-retries
returns-clause-retries g c =
    let A = AtSomeTime _ g.D.Decider.answers in
    let old = c.args.board.now in
    let new = c.retry_holdouts.new.board in
    let after = g.L.LedgerOut.text c.retry_holdouts.new.ledger in
    let cut = c.in_ok-cut_off.ensures.ok in
    if_ok c.report_board.result (λ o reports. record {
      board = new;
      root = c.retry_holdouts.ensures.kept.root;
      tried = subst (λ (t : Option (List ℕ)). AreRetried A old t new after) cut c.in_ok-retry_holdouts.ensures.order;
      step = λ reads. c.in_ok-retry_holdouts.ensures.kept.step
          (subst (λ (t : Option (List ℕ)). IfSome t (IsLedgerOf old)) (sym cut) (cut_reads old c.args.left.now (g.L.LedgerOut.text c.args.ledger.now) reads));
      reports = reports;
    }) c.report_board.ensures.ok

pub returns-in_err-cut_off-clause-leaves : goal.returns-in_err-cut_off-clause-leaves
returns-in_err-cut_off-clause-leaves g c =
    let p = err_from_is_err_and c.from_residual.result c.from_residual.ensures.1 in
    rw p.1 (inl c.in_err-cut_off.ensures.err)

pub returns-in_err-retry_holdouts-clause-leaves : goal.returns-in_err-retry_holdouts-clause-leaves
returns-in_err-retry_holdouts-clause-leaves g c =
    let A = AtSomeTime _ g.D.Decider.answers in
    let p = err_from_is_err_and c.from_residual-in_err-retry_holdouts.result c.from_residual-in_err-retry_holdouts.ensures.1 in
    let (b, left) = left_retried A _ _ _ _ c.in_err-retry_holdouts.ensures.leaves in
    rw p.1 (inr (b, subst (λ (t : Option (List ℕ)). LeavesRetried A c.args.board.now t b (g.L.LedgerOut.text c.retry_holdouts.new.ledger)) c.in_ok-cut_off.ensures.ok left))

pub returns-clause-leaves : goal.returns-clause-leaves
returns-clause-leaves g c =
    let A = AtSomeTime _ g.D.Decider.answers in
    on_err c.report_board.result (inr (
      c.retry_holdouts.new.board,
      inr (inr (subst (λ (t : Option (List ℕ)). AreRetried A c.args.board.now t c.retry_holdouts.new.board (g.L.LedgerOut.text c.retry_holdouts.new.ledger)) c.in_ok-cut_off.ensures.ok
          c.in_ok-retry_holdouts.ensures.order)),
    ))
