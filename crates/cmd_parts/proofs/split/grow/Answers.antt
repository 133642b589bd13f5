use Rattle.std.proofs.Common.{List, ℕ, Option, IfSome, inr, sym, ap, ◌∙◌, subst}
use Rattle.std.proofs.lemmas.Result.{err_from_is_err_and}
use Rattle.machine_text.specs.Terms.{Packed}
use Rattle.ledger.specs.Terms.{IsLedgerOf}
use Rattle.cmd_ledgers.specs.Terms.{AtSomeTime}
use Rattle.cmd_parts.specs.Settle.{IsOpenBelow, LeavesSettled, begun_trunk}
use Rattle.cmd_parts.proofs.SettledTables.{left_settled}
use Rattle.cmd_parts.proofs.split.grow.Goals as goal

pub returns-clause-step : goal.returns-clause-step
returns-clause-step g c =
    let before = g.L.LedgerOut.text c.args.ledger.now in
    let is = c.in_ok-begin_trunk.ensures.ok ∙ ap (λ (p : Packed). begun_trunk p c.args.bytes c.args.left.now before) c.root.ensures.root in
    λ reads. c.in_ok-settle_below.ensures.step (subst (λ (o : Option (List ℕ)). IfSome o (IsLedgerOf c.args.board.now)) (sym is) reads)

pub returns-in_err-settle_below-clause-leaves : goal.returns-in_err-settle_below-clause-leaves
returns-in_err-settle_below-clause-leaves g c =
    let A = AtSomeTime _ g.D.Decider.answers in
    let before = g.L.LedgerOut.text c.args.ledger.now in
    let is = c.in_ok-begin_trunk.ensures.ok ∙ ap (λ (p : Packed). begun_trunk p c.args.bytes c.args.left.now before) c.root.ensures.root in
    let p = err_from_is_err_and c.from_residual-in_err-settle_below.result c.from_residual-in_err-settle_below.ensures.1 in
    let (b, left) = left_settled A (IsOpenBelow c.args.limit) _ _ _ _ c.in_err-settle_below.ensures.leaves in
    rw p.1 (inr (b, subst (λ (o : Option (List ℕ)). LeavesSettled A (IsOpenBelow c.args.limit) c.args.board.now o b (g.L.LedgerOut.text c.settle_below.new.ledger)) is left))
