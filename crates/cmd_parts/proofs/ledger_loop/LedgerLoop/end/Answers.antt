use Rattle.std.proofs.Common.{◌≡◌, ◌++◌, List, ℕ, ap, inl, refl, ◌∙◌}
use Rattle.std.proofs.lemmas.Result.{IfErr-weaker, on_ok_weaker}
use Rattle.cmd_parts.proofs.TakenLedgers.{last_taken, all_but_last, last_cut}
use Rattle.cmd_lines.proofs.AnsweredPieces.{IfErr-from_is_err_and, IfErr-passed}
use Rattle.cmd_parts.proofs.ledger_loop.LedgerLoop.end.Goals as goal

pub returns-clause-ok : goal.returns-clause-ok
returns-clause-ok g c =
    let kept = c.cut_before_line.new.self.before.items in
    let is : c.deref-2.result.now ≡ kept ++ c.args.self.now.line.items =
    c.deref-2.ensures.value ∙ (c.in_ok-extend_from_slice.ensures.items ∙ ap (λ (l : List ℕ). kept ++ l) (c.deref.ensures.value ∙ c.cut_before_line.ensures.line)) in
    on_ok_weaker c.take_ledger.result (λ told start begun text so.
    last_taken g.T.LedgerTaker.takes start begun text c.args.self.now.before.items c.args.self.now.line.items c.args.taker.now (g.E.Write.contents c.args.faults.now) kept c.cut_before_line.new.taker (g.E.Write.contents c.cut_before_line.new.faults)
    c.deref-2.result.now c.take_ledger.new.self (g.E.Write.contents c.take_ledger.new.faults) so c.in_ok-cut_before_line.ensures.ok is told) c.take_ledger.ensures.ok

pub returns-in_err-cut_before_line-clause-first : goal.returns-in_err-cut_before_line-clause-first
returns-in_err-cut_before_line-clause-first g c =
    IfErr-passed c.from_residual.result _ _ c.from_residual.ensures.1 (λ start begun text so.
    all_but_last g.T.LedgerTaker.takes start begun text c.args.self.now.before.items c.args.self.now.line.items c.args.taker.now (g.E.Write.contents c.args.faults.now) (g.E.Write.contents c.cut_before_line.new.faults) _ so c.in_err-cut_before_line.ensures.err)

pub returns-in_err-extend_from_slice-clause-first : goal.returns-in_err-extend_from_slice-clause-first
returns-in_err-extend_from_slice-clause-first g c =
    IfErr-from_is_err_and c.from_residual-in_err-extend_from_slice.result _ _ c.from_residual-in_err-extend_from_slice.ensures.1 (λ e is start begun text so.
    last_cut g.T.LedgerTaker.takes start begun text c.args.self.now.before.items c.args.self.now.line.items c.args.taker.now (g.E.Write.contents c.args.faults.now) c.cut_before_line.new.self.before.items c.cut_before_line.new.taker
    (g.E.Write.contents c.cut_before_line.new.faults) (g.E.Write.contents c.cut_before_line.new.faults) e so c.in_ok-cut_before_line.ensures.ok (inl refl))

pub returns-clause-first : goal.returns-clause-first
returns-clause-first g c =
    IfErr-weaker c.take_ledger.result _ _ (λ e nothing start begun text so.
    last_cut g.T.LedgerTaker.takes start begun text c.args.self.now.before.items c.args.self.now.line.items c.args.taker.now (g.E.Write.contents c.args.faults.now) c.cut_before_line.new.self.before.items c.cut_before_line.new.taker
    (g.E.Write.contents c.cut_before_line.new.faults) (g.E.Write.contents c.take_ledger.new.faults) e so c.in_ok-cut_before_line.ensures.ok nothing) c.take_ledger.ensures.err
