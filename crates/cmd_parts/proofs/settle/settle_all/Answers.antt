use Rattle.std.proofs.Common.{rules, ◌≡◌, ℕ, List, [], Option, ap, ◌<◌, ◌^◌, ◌+◌, refl, sym, ◌∙◌, subst, arith, get_or, length}
use Rattle.std.proofs.lemmas.List.{get_or_read_under}
use Rattle.std.proofs.lemmas.List.Elements.{All-contains_itself}
use Rattle.std.proofs.lemmas.Result.{err_from_is_err_and, on_err_weaker}
use Rattle.machine_text.specs.Terms.{Packed}
use Rattle.ledger.proofs.Sets.{all_apart}
use Rattle.wire.specs.Terms.{grown}
use Rattle.cmd_ledgers.specs.Terms.{AtSomeTime, StaysInStep}
use Rattle.cmd_parts.specs.Settle.{IsOpenBelow, SettlesMany, SettlesOne}
use Rattle.cmd_ledgers.proofs.RetriedLedgers.{grown_more, grown_none, part_begun, part_later}
use Rattle.cmd_ledgers.proofs.TreeReports.{on_ok}
use Rattle.cmd_parts.proofs.SettledTables.{due_so, may_so, one_more_settled, one_record_more, part_at, stays_below}
use Rattle.cmd_parts.proofs.settle.settle_all.Goals as goal

pub loop-t-init : goal.loop-t-init
loop-t-init g c =
    let text = g.L.LedgerOut.text c.args.ledger.now in
    let same : grown text c.new-lines.result.items ≡ text = ap (grown text) c.new-lines.ensures.items ∙ grown_none text in (
      (refl, same),
      omega arith,
      λ some. absurd (omega (arith, some)),
      subst (λ (o : Option (List ℕ)). StaysInStep c.args.board.now text c.args.board.now o) (sym same) (λ s. s),
      ([], sym (grown_none text)),
      λ k d low below. (c.requires.exact (get_or c.args.due.now k d)).0 (All-contains_itself c.args.due.now k d below),
    )

pub settle-requires : goal.settle-requires
settle-requires g c =
    let (many, number, small, step, held, due) = c.loop-t.invariant in
    (subst (λ (t : Packed). IsOpenBelow c.args.limit c.loop-t.board t) (sym c.t-item.is) (due c.loop-t.t-index c.t-item.result (omega arith) c.loop-t-test.true)).0

pub loop-t-preserved : goal.loop-t-preserved
loop-t-preserved g c =
    let A = AtSomeTime _ g.D.Decider.answers in
    let IsDue = IsOpenBelow c.args.limit in
    let i = c.loop-t.t-index in
    let ts = c.args.due.now in
    let (many, number, small, step, held, due) = c.loop-t.invariant in
    let here : IsOpenBelow c.args.limit c.loop-t.board c.t-item.result =
    subst (λ (t : Packed). IsOpenBelow c.args.limit c.loop-t.board t) (sym c.t-item.is) (due i c.t-item.result (omega arith) c.loop-t-test.true) in
    let took = c.in_ok-settle.ensures.ok in
    let one : SettlesOne A IsDue c.loop-t.board (grown (g.L.LedgerOut.text c.loop-t.ledger) c.loop-t.lines.items) c.settle.new.board (grown (g.L.LedgerOut.text c.settle.new.ledger) c.settle.new.lines.items) =
    due_so A IsDue c.t-item.result _ _ _ _ here took in
    let more = one_record_more A IsDue _ _ _ _ one in
    let bound : length c.settle.new.board.records < 2 ^ 64 = search rules in (
      one_more_settled A IsDue i (i + 1) _ _ _ _ _ _ (omega arith) many one,
      omega (arith, number, more),
      λ some. bound,
      λ s. c.in_ok-settle.ensures.step (step s),
      grown_more _ _ _ held c.in_ok-settle.ensures.grown,
      λ k d low below. stays_below c.args.limit _ _ took.made (get_or ts k d) took.next.fit took.board
          (λ e. all_apart (IsOpenBelow c.args.limit c.args.board.now) ts c.requires i k d (omega (arith, low)) below (sym (get_or_read_under ts i _ c.t-item.result d c.t-item.is c.loop-t-test.true refl) ∙ (sym took.next.due ∙ sym e)))
          (due k d (omega (arith, low)) below),
    )

pub returns-in_err-settle-clause-leaves : goal.returns-in_err-settle-clause-leaves
returns-in_err-settle-clause-leaves g c =
    let A = AtSomeTime _ g.D.Decider.answers in
    let IsDue = IsOpenBelow c.args.limit in
    let (many, number, small, step, held, due) = c.loop-t.invariant in
    let here : IsOpenBelow c.args.limit c.loop-t.board c.t-item.result =
    subst (λ (t : Packed). IsOpenBelow c.args.limit c.loop-t.board t) (sym c.t-item.is) (due c.loop-t.t-index c.t-item.result (omega arith) c.loop-t-test.true) in
    let (whole, may, part) = c.in_err-settle.ensures.leaves in
    let p = err_from_is_err_and c.from_residual.result c.from_residual.ensures.1 in
    rw p.1 (part_at A IsDue c.loop-t.t-index _ _ _ _ _ _ whole _ many (may_so A IsDue c.t-item.result _ _ _ _ here may) held part)

pub returns-clause-settled : goal.returns-clause-settled
returns-clause-settled g c =
    let A = AtSomeTime _ g.D.Decider.answers in
    let (many, number, small, step, held, due) = c.loop-t.invariant in
    on_ok c.write_lines.result (λ (wrote : (g.L.LedgerOut.text c.write_lines.new.ledger ≡ grown (g.L.LedgerOut.text c.loop-t.ledger) c.loop-t.lines.items) × (c.write_lines.new.lines.items ≡ [])).
    subst (λ (o : Option (List ℕ)). SettlesMany A (IsOpenBelow c.args.limit) (length c.args.due.now) c.args.board.now (g.L.LedgerOut.text c.args.ledger.now) c.loop-t.board o) (sym wrote.0)
    (subst (λ (n : ℕ). SettlesMany A (IsOpenBelow c.args.limit) n c.args.board.now (g.L.LedgerOut.text c.args.ledger.now) c.loop-t.board (grown (g.L.LedgerOut.text c.loop-t.ledger) c.loop-t.lines.items)) (search rules) many)) c.write_lines.ensures.ok

pub returns-clause-step : goal.returns-clause-step
returns-clause-step g c =
    let (many, number, small, step, held, due) = c.loop-t.invariant in
    on_ok c.write_lines.result (λ (wrote : (g.L.LedgerOut.text c.write_lines.new.ledger ≡ grown (g.L.LedgerOut.text c.loop-t.ledger) c.loop-t.lines.items) × (c.write_lines.new.lines.items ≡ [])).
    subst (λ (o : Option (List ℕ)). StaysInStep c.args.board.now (g.L.LedgerOut.text c.args.ledger.now) c.loop-t.board o) (sym wrote.0) step) c.write_lines.ensures.ok

pub returns-clause-leaves : goal.returns-clause-leaves
returns-clause-leaves g c =
    let (many, number, small, step, held, due) = c.loop-t.invariant in
    on_err_weaker c.write_lines.result (λ begun. record { count = c.loop-t.t-index; whole = _; many = many; part = part_later _ _ _ _ held (part_begun _ _ _ begun) }) c.write_lines.ensures.err
