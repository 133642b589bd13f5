use Rattle.std.proofs.Common.{◌≡◌, ℕ, List, Option, inl, inr, sym, ap, subst}
use Rattle.std.proofs.lemmas.Result.{err_from_is_err_and, on_err_weaker}
use Rattle.wire.specs.Terms.{grown}
use Rattle.cmd_ledgers.specs.Terms.{AtSomeTime, StaysInStep}
use Rattle.cmd_ledgers.proofs.RetriedLedgers.{part_begun, part_whole}
use Rattle.cmd_ledgers.proofs.TreeReports.{on_ok}
use Rattle.cmd_parts.specs.Settle.{SettlesOne}
use Rattle.cmd_parts.proofs.SettledTables.{one_behind, one_in_step}
use Rattle.cmd_parts.proofs.settle.settle.Goals as goal

pub returns-in-Ok-clause-ok : goal.returns-in-Ok-clause-ok
returns-in-Ok-clause-ok g c =
    let A = AtSomeTime _ g.D.Decider.answers in
    let old = c.args.board.now in
    let new = c.decide_next.new.board in
    let text = g.L.LedgerOut.text c.args.ledger.now in
    let lines = c.args.lines.now.items in
    let new_lines = c.decide_next.new.lines.items in
    let one = one_behind A (λ b q. q ≡ c.args.t.now) old new text lines new_lines c.in-Ok.ensures.ok in
    on_ok c.write_due.result (λ (whole : grown (g.L.LedgerOut.text c.write_due.new.ledger) c.write_due.new.lines.items ≡ grown text new_lines).
    subst (λ (o : Option (List ℕ)). SettlesOne A (λ b q. q ≡ c.args.t.now) old (grown text lines) new o) (sym whole) one) c.write_due.ensures.whole

pub returns-in-Ok-clause-step : goal.returns-in-Ok-clause-step
returns-in-Ok-clause-step g c =
    let A = AtSomeTime _ g.D.Decider.answers in
    let old = c.args.board.now in
    let new = c.decide_next.new.board in
    let text = g.L.LedgerOut.text c.args.ledger.now in
    let lines = c.args.lines.now.items in
    let new_lines = c.decide_next.new.lines.items in
    let one = one_behind A (λ b q. q ≡ c.args.t.now) old new text lines new_lines c.in-Ok.ensures.ok in
    on_ok c.write_due.result (λ (whole : grown (g.L.LedgerOut.text c.write_due.new.ledger) c.write_due.new.lines.items ≡ grown text new_lines).
    subst (λ (o : Option (List ℕ)). StaysInStep old (grown text lines) new o) (sym whole) (one_in_step A (λ b q. q ≡ c.args.t.now) old new (grown text lines) (grown text new_lines) c.root.ensures.board one)) c.write_due.ensures.whole

pub returns-in-Ok-clause-leaves : goal.returns-in-Ok-clause-leaves
returns-in-Ok-clause-leaves g c =
    let A = AtSomeTime _ g.D.Decider.answers in
    let text = g.L.LedgerOut.text c.args.ledger.now in
    let new_lines = c.decide_next.new.lines.items in
    let one = one_behind A (λ b q. q ≡ c.args.t.now) c.args.board.now c.decide_next.new.board text c.args.lines.now.items new_lines c.in-Ok.ensures.ok in
    on_err_weaker c.write_due.result (λ begun. (grown text new_lines, inr one, part_begun text (g.L.LedgerOut.text c.write_due.new.ledger) new_lines begun)) c.write_due.ensures.err

pub returns-in_err-write_lines-in-Err-clause-leaves : goal.returns-in_err-write_lines-in-Err-clause-leaves
returns-in_err-write_lines-in-Err-clause-leaves g c =
    let text = g.L.LedgerOut.text c.args.ledger.now in
    let new_lines = c.decide_next.new.lines.items in
    let same = c.in-Err.ensures.err in
    let p = err_from_is_err_and c.from_residual.result c.from_residual.ensures.1 in
    rw p.1 (grown text new_lines, inl (same.0, ap (grown text) same.1), part_begun text (g.L.LedgerOut.text c.write_lines.new.ledger) new_lines c.in_err-write_lines-in-Err.ensures.err)

pub returns-in_ok-write_lines-in-Err-clause-leaves : goal.returns-in_ok-write_lines-in-Err-clause-leaves
returns-in_ok-write_lines-in-Err-clause-leaves g c =
    let text = g.L.LedgerOut.text c.args.ledger.now in
    let new_lines = c.decide_next.new.lines.items in
    let same = c.in-Err.ensures.err in
    (grown text new_lines, inl (same.0, ap (grown text) same.1), part_whole text (g.L.LedgerOut.text c.write_lines.new.ledger) new_lines c.in_ok-write_lines-in-Err.ensures.ok.0)
