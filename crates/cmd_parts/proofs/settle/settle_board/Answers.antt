use Rattle.std.proofs.Common.{◌≡◌, ◌-◌, [], ℕ, List, Option, suc, refl, sym, ap, ◌∙◌, subst, arith}
use Rattle.std.proofs.lemmas.Result.{err_from_is_err_and}
use Rattle.wire.specs.Terms.{grown}
use Rattle.cmd_ledgers.specs.Terms.{AtSomeTime, StaysInStep}
use Rattle.cmd_ledgers.proofs.RetriedLedgers.{grown_more, grown_none, part_begun, part_later}
use Rattle.cmd_parts.specs.Settle.{ComesFirst, SettlesMany, SettlesOne}
use Rattle.cmd_parts.proofs.SettledTables.{due_so, may_so, one_more_settled, one_record_more, part_at}
use Rattle.cmd_parts.proofs.settle.settle_board.Goals as goal

pub loop-t-init : goal.loop-t-init
loop-t-init g c =
    let text = g.L.LedgerOut.text c.args.ledger.now in
    let same : grown text c.new-lines.result.items ≡ text = ap (grown text) c.new-lines.ensures.items ∙ grown_none text in (
      0,
      (refl, same),
      omega arith,
      subst (λ (o : Option (List ℕ)). StaysInStep c.args.board.now text c.args.board.now o) (sym same) (λ s. s),
      ([], sym (grown_none text)),
    )

pub loop-t-preserved : goal.loop-t-preserved
loop-t-preserved g c =
    let A = AtSomeTime _ g.D.Decider.answers in
    let (k, many, number, step, held) = c.loop-t.invariant in
    let one : SettlesOne A ComesFirst c.loop-t.board (grown (g.L.LedgerOut.text c.loop-t.ledger) c.loop-t.lines.items) c.settle.new.board (grown (g.L.LedgerOut.text c.settle.new.ledger) c.settle.new.lines.items) =
    due_so A ComesFirst c.in-Some.t _ _ _ _ c.in-Some.ensures.some c.in_ok-settle.ensures.ok in
    let more = one_record_more A ComesFirst _ _ _ _ one in (
      suc k,
      one_more_settled A ComesFirst k (suc k) _ _ _ _ _ _ refl many one,
      omega (arith, number, more),
      λ s. c.in_ok-settle.ensures.step (step s),
      grown_more _ _ _ held c.in_ok-settle.ensures.grown,
    )

pub returns-in_err-settle-clause-leaves : goal.returns-in_err-settle-clause-leaves
returns-in_err-settle-clause-leaves g c =
    let A = AtSomeTime _ g.D.Decider.answers in
    let (k, many, number, step, held) = c.loop-t.invariant in
    let (whole, may, part) = c.in_err-settle.ensures.leaves in
    let p = err_from_is_err_and c.from_residual.result c.from_residual.ensures.1 in
    rw p.1 (part_at A ComesFirst k _ _ _ _ _ _ whole _ many (may_so A ComesFirst c.in-Some.t _ _ _ _ c.in-Some.ensures.some may) held part)

pub returns-clause-settled : goal.returns-clause-settled
returns-clause-settled g c =
    let A = AtSomeTime _ g.D.Decider.answers in
    let (k, many, number, step, held) = c.loop-t.invariant in
    let count : c.record_count.result - c.record_count-before.result ≡ k = omega (arith, number, c.record_count.ensures, c.record_count-before.ensures) in
    subst (λ (n : ℕ). SettlesMany A ComesFirst n c.args.board.now (g.L.LedgerOut.text c.args.ledger.now) c.loop-t.board (g.L.LedgerOut.text c.write_lines.new.ledger)) (sym count)
    (subst (λ (o : Option (List ℕ)). SettlesMany A ComesFirst k c.args.board.now (g.L.LedgerOut.text c.args.ledger.now) c.loop-t.board o) (sym c.in_ok-write_lines.ensures.ok.0) many)

pub returns-clause-step : goal.returns-clause-step
returns-clause-step g c =
    let (k, many, number, step, held) = c.loop-t.invariant in
    subst (λ (o : Option (List ℕ)). StaysInStep c.args.board.now (g.L.LedgerOut.text c.args.ledger.now) c.loop-t.board o) (sym c.in_ok-write_lines.ensures.ok.0) step

pub returns-in_err-write_lines-clause-leaves : goal.returns-in_err-write_lines-clause-leaves
returns-in_err-write_lines-clause-leaves g c =
    let (k, many, number, step, held) = c.loop-t.invariant in
    let p = err_from_is_err_and c.from_residual-in_err-write_lines.result c.from_residual-in_err-write_lines.ensures.1 in
    rw p.1 (record { count = k; whole = _; many = many; part = part_later _ _ _ _ held (part_begun _ _ _ c.in_err-write_lines.ensures.err) })
