use Rattle.std.proofs.Common.{List, ℕ, Option, IfSome, inl, inr, refl, sym, subst}
use Rattle.std.proofs.lemmas.Result.{err_from_is_err_and}
use Rattle.ledger.specs.Terms.{IsLedgerOf}
use Rattle.cmd_ledgers.specs.Terms.{AtSomeTime}
use Rattle.cmd_ledgers.proofs.RetriedLedgers.{cut_reads}
use Rattle.cmd_parts.specs.Settle.{ComesFirst, LeavesSettled, SettlesMany}
use Rattle.cmd_parts.proofs.SettledTables.{left_settled}
use Rattle.cmd_parts.proofs.settle.settle_loaded.Goals as goal

pub returns-clause-step : goal.returns-clause-step
returns-clause-step g c = λ reads.
    c.in_ok-count.ensures.step (subst (λ (o : Option (List ℕ)). IfSome o (IsLedgerOf c.args.board.now)) (sym c.in_ok-cut_off.ensures.ok)
    (cut_reads c.args.board.now c.args.left.now (g.L.LedgerOut.text c.args.ledger.now) reads))

pub returns-in_err-cut_off-clause-leaves : goal.returns-in_err-cut_off-clause-leaves
returns-in_err-cut_off-clause-leaves g c =
    let p = err_from_is_err_and c.from_residual.result c.from_residual.ensures.1 in
    rw p.1 (inl c.in_err-cut_off.ensures.err)

pub returns-in_err-count-clause-leaves : goal.returns-in_err-count-clause-leaves
returns-in_err-count-clause-leaves g c =
    let A = AtSomeTime _ g.D.Decider.answers in
    let p = err_from_is_err_and c.from_residual-in_err-count.result c.from_residual-in_err-count.ensures.1 in
    let (b, left) = left_settled A ComesFirst _ _ _ _ c.in_err-count.ensures.leaves in
    rw p.1 (inr (b, subst (λ (t : Option (List ℕ)). LeavesSettled A ComesFirst c.args.board.now t b (g.L.LedgerOut.text c.settle_board.new.ledger)) c.in_ok-cut_off.ensures.ok left))

pub returns-in_err-append_settled-clause-leaves : goal.returns-in_err-append_settled-clause-leaves
returns-in_err-append_settled-clause-leaves g c =
    let A = AtSomeTime _ g.D.Decider.answers in
    let p = err_from_is_err_and c.from_residual-in_err-append_settled.result c.from_residual-in_err-append_settled.ensures.1 in
    rw p.1 (inr (
      c.settle_board.new.board,
      (
        c.in_ok-count.count,
        c.settle_board.new.board,
        g.L.LedgerOut.text c.settle_board.new.ledger,
        subst (λ (t : Option (List ℕ)). SettlesMany A ComesFirst c.in_ok-count.count c.args.board.now t c.settle_board.new.board (g.L.LedgerOut.text c.settle_board.new.ledger)) c.in_ok-cut_off.ensures.ok
            c.in_ok-count.ensures.settled,
        inl (refl, refl),
      ),
    ))

pub returns-in_err-write_all-clause-leaves : goal.returns-in_err-write_all-clause-leaves
returns-in_err-write_all-clause-leaves g c =
    let A = AtSomeTime _ g.D.Decider.answers in
    let p = err_from_is_err_and c.from_residual-in_err-write_all.result c.from_residual-in_err-write_all.ensures.1 in
    rw p.1 (inr (
      c.settle_board.new.board,
      (
        c.in_ok-count.count,
        c.settle_board.new.board,
        g.L.LedgerOut.text c.settle_board.new.ledger,
        subst (λ (t : Option (List ℕ)). SettlesMany A ComesFirst c.in_ok-count.count c.args.board.now t c.settle_board.new.board (g.L.LedgerOut.text c.settle_board.new.ledger)) c.in_ok-cut_off.ensures.ok
            c.in_ok-count.ensures.settled,
        inl (refl, refl),
      ),
    ))
