use Rattle.std.proofs.Common.{arith, ◌≡◌, ◌∙◌, ◌+◌, ◌<◌, List, ap, drop, get_or, length, None}
use Rattle.std.proofs.lemmas.Result.{err_from_is_err_and}
use Rattle.wire.specs.Terms.{scene}
use Rattle.peers.specs.Guard.{AskerState, GuardState, returned, returned_by}
use Rattle.peers.proofs.Answering.{broken_more, handed_more, returned_next}
use Rattle.peers.proofs.guard.Guard.give_back_all.Goals as goal

pub askers-preserved : goal.askers-preserved
askers-preserved g c =
    let askers = c.args.self.now.askers in
    let same : c.self.inside.askers.items ≡ askers = ap (λ (s : GuardState). s.askers) c.self.view_is in
    let count = ap length same in
    let below : c.askers.place < length askers = omega (arith, c.askers-test.true, c.len.ensures, count) in
    let at : c.index.result.now ≡ get_or askers c.askers.place c.index.result.now =
    c.index.ensures ∙ ap (λ (as_now : List AskerState). get_or as_now c.askers.place c.index.result.now) same in
    record {
      within = omega arith;
      handed =
          handed_more g.N.Node.answers (scene c.args.node.now (g.W.LedgerOut.text c.args.ledger.now) None)
          (scene c.askers.node (g.W.LedgerOut.text c.askers.ledger) None)
          (scene c.return_lease.new.node (g.W.LedgerOut.text c.return_lease.new.ledger) None) (returned askers) (returned (drop c.askers.place askers))
          (returned_by c.index.result.now.returning) (returned (drop (c.askers.place + 1) askers)) c.askers.invariant.handed
          (returned_next askers c.askers.place c.index.result.now below at) c.in_ok-return_lease.ensures.ok;
      step = λ known. c.in_ok-return_lease.ensures.ends.step (λ e. cc) (c.askers.invariant.step known);
      same = c.in_ok-return_lease.ensures.same ∙ c.askers.invariant.same;
    }

pub returns-in_err-return_lease-clause-err : goal.returns-in_err-return_lease-clause-err
returns-in_err-return_lease-clause-err g c =
    let askers = c.args.self.now.askers in
    let same : c.self.inside.askers.items ≡ askers = ap (λ (s : GuardState). s.askers) c.self.view_is in
    let count = ap length same in
    let below : c.askers.place < length askers = omega (arith, c.askers-test.true, c.len.ensures, count) in
    let at : c.index.result.now ≡ get_or askers c.askers.place c.index.result.now =
    c.index.ensures ∙ ap (λ (as_now : List AskerState). get_or as_now c.askers.place c.index.result.now) same in
    let fault = err_from_is_err_and c.from_residual.result c.from_residual.ensures.1 in
    let told = c.in_err-return_lease.ensures.err in
    rw (fault.1, fault.2) (
      told.0,
      (
        returned (drop (c.askers.place + 1) askers),
        broken_more g.N.Node.answers g.N.Node.is_stopped (scene c.args.node.now (g.W.LedgerOut.text c.args.ledger.now) None)
            (scene c.askers.node (g.W.LedgerOut.text c.askers.ledger) None)
            (scene c.return_lease.new.node (g.W.LedgerOut.text c.return_lease.new.ledger) None) (returned askers) (returned (drop c.askers.place askers))
            (returned_by c.index.result.now.returning) (returned (drop (c.askers.place + 1) askers)) c.in_err-return_lease.field-0.0
            c.askers.invariant.handed (returned_next askers c.askers.place c.index.result.now below at) told.1,
      ),
    )
