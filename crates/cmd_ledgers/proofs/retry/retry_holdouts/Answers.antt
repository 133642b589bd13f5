use Rattle.std.proofs.Common.{rules, ◌≡◌, [], ◌∷◌, ◌∙◌, List, ℕ, Option, inr, ap, refl, sym, subst}
use Rattle.std.proofs.lemmas.List.{nil_from_length}
use Rattle.std.proofs.lemmas.Result.{err_from_is_err_and, on_err_weaker}
use Rattle.std.specs.Vec.Iter.{into_iter_items}
use Rattle.machine_text.specs.Terms.{Packed}
use Rattle.ledger.specs.Terms.{IsHoldout, AreAll}
use Rattle.ledger.specs.declared.header.Format.{Format}
use Rattle.wire.specs.Terms.{grown}
use Rattle.cmd_ledgers.specs.Retry.{AreTried, AtSomeTime, IsTried, StaysInStep}
use Rattle.cmd_ledgers.proofs.RetriedLedgers.{grown_none, grown_more, part_begun, part_later, AreWaiting, all_tried, all_wait, ends_at, first_waits, one_tried, others_wait}
use Rattle.cmd_ledgers.proofs.TreeReports.{on_ok}
use Rattle.cmd_ledgers.proofs.retry.retry_holdouts.Goals as goal

pub loop-table-init : goal.loop-table-init
loop-table-init g c =
    let all : AreAll (IsHoldout c.args.board.now.records) (into_iter_items c.into_iter-table-iterator.result) = search rules in
    let text = g.L.LedgerOut.text c.args.ledger.now in
    let same : text ≡ grown text c.new-lines.result.items = sym (ap (grown text) c.new-lines.ensures.items ∙ grown_none text) in
    (search rules, search rules, subst (λ (o : Option (List ℕ)). StaysInStep c.args.board.now text c.args.board.now o) same (λ s. s), ([], sym (grown_none text)), all_wait _ _ all, [], all, (refl, sym same))

pub retry-requires : goal.retry-requires
retry-requires g c =
    let is : into_iter_items c.loop-table.table-iterator ≡ c.in-Some.table ∷ into_iter_items c.next.new.self = search rules in
    first_waits _ _ _ (subst (λ (ts : List Packed). AreWaiting c.loop-table.board.records ts) is c.loop-table.invariant.4)

pub loop-table-preserved : goal.loop-table-preserved
loop-table-preserved g c =
    let is : into_iter_items c.loop-table.table-iterator ≡ c.in-Some.table ∷ into_iter_items c.next.new.self = search rules in
    let (root, was, step, more, waits, tried, all, are) = c.loop-table.invariant in
    let waiting = subst (λ (ts : List Packed). AreWaiting c.loop-table.board.records ts) is waits in
    let took = c.in_ok-retry.ensures.tried in
    let A = AtSomeTime _ g.D.Decider.answers in
    let format = c.args.board.now.format in
    let before = grown (g.L.LedgerOut.text c.loop-table.ledger) c.loop-table.lines.items in
    let after = grown (g.L.LedgerOut.text c.retry.new.ledger) c.retry.new.lines.items in
    let here : IsTried A format c.in-Some.table c.loop-table.board.records before c.retry.new.board.records after =
    subst (λ (f : Format). IsTried A f c.in-Some.table c.loop-table.board.records before c.retry.new.board.records after) was took in
    let (now_tried, all_now, are_now) = one_tried (IsHoldout c.args.board.now.records) A format tried c.in-Some.table _ _ _ _ _ _ _ _ is all are here in (
      c.retry.ensures.kept.root ∙ root,
      c.retry.ensures.kept.format ∙ was,
      λ s. c.in_ok-retry.ensures.kept.step (step s),
      grown_more _ _ _ more c.in_ok-retry.ensures.grown,
      others_wait _ _ _ _ _ took.0 _ _ took.2 took.3 waiting,
      now_tried,
      all_now,
      are_now,
    )

pub returns-in_err-retry-clause-leaves : goal.returns-in_err-retry-clause-leaves
returns-in_err-retry-clause-leaves g c =
    let A = AtSomeTime _ g.D.Decider.answers in
    let is : into_iter_items c.loop-table.table-iterator ≡ c.in-Some.table ∷ into_iter_items c.next.new.self = search rules in
    let (root, was, step, more, waits, tried, all, are) = c.loop-table.invariant in
    let (whole, may, part) = c.in_err-retry.ensures.leaves in
    let p = err_from_is_err_and c.from_residual-in_err-retry.result c.from_residual-in_err-retry.ensures.1 in
    rw p.1 (ends_at A c.args.board.now _ _ _ _ _ _ whole _ tried c.in-Some.table _ _ is was all are may more part)

pub returns-clause-kept : goal.returns-clause-kept
returns-clause-kept g c =
    let (root, was, step, more, waits, tried, all, are) = c.loop-table.invariant in
    record {
      root = root;
      format = was;
      step = on_ok c.write_lines.result (λ (wrote : (g.L.LedgerOut.text c.write_lines.new.ledger ≡ grown (g.L.LedgerOut.text c.loop-table.ledger) c.loop-table.lines.items) × (c.write_lines.new.lines.items ≡ [])).
          subst (λ (o : Option (List ℕ)). StaysInStep c.args.board.now (g.L.LedgerOut.text c.args.ledger.now) c.loop-table.board o) (sym wrote.0) step) c.write_lines.ensures.ok;
    }

pub returns-clause-order : goal.returns-clause-order
returns-clause-order g c =
    let A = AtSomeTime _ g.D.Decider.answers in
    let (root, was, step, more, waits, tried, all, are) = c.loop-table.invariant in
    let none : into_iter_items c.loop-table.table-iterator ≡ [] = nil_from_length _ (sym c.loop-table.table-iterator.rest.ok.0 ∙ c.in-None.ensures.steps.0) in
    on_ok c.write_lines.result (λ (wrote : (g.L.LedgerOut.text c.write_lines.new.ledger ≡ grown (g.L.LedgerOut.text c.loop-table.ledger) c.loop-table.lines.items) × (c.write_lines.new.lines.items ≡ [])).
    all_tried A c.args.board.now c.loop-table.board _ _ tried _ none all
    (subst (λ (o : Option (List ℕ)). AreTried A c.args.board.now.format tried c.args.board.now.records (g.L.LedgerOut.text c.args.ledger.now) c.loop-table.board.records o) (sym wrote.0) are)) c.write_lines.ensures.ok

pub returns-clause-leaves : goal.returns-clause-leaves
returns-clause-leaves g c =
    let (root, was, step, more, waits, tried, all, are) = c.loop-table.invariant in
    on_err_weaker c.write_lines.result (λ begun. inr (record {
      tried = tried;
      later = _;
      are_all = all;
      whole = _;
      are_tried = are;
      part = part_later _ _ _ _ more (part_begun _ _ _ begun);
    })) c.write_lines.ensures.err
