use Rattle.std.proofs.Common.{sym, subst, List, ℕ, [], ◌∷◌, Ok, Err}
use Rattle.std.proofs.lemmas.Result.{on_ok_weaker, err_from_is_err_and}
use Rattle.wire.specs.Fulfilled.{scene, Came, event_of, known}
use Rattle.wire.specs.inside.{HasGathered}
use Rattle.wire.proofs.Answers.{all_faults, taken, untaken, unfulfilled, node_faulted}
use Rattle.wire.proofs.handing.gather.Goals as goal

pub returns-in-Ok-clause-ok : goal.returns-in-Ok-clause-ok
returns-in-Ok-clause-ok g c =
    let answers = g.N.Node.answers in
    let text = g.W.LedgerOut.text c.args.ledger.now in
    let sent = g.L.Link.sent c.args.link.now in
    let given = subst (λ (frame : List ℕ). answers c.args.node.now (Came frame) (Ok c.in-Ok.out) c.on.new.self) c.frame_of.ensures c.in-Ok.ensures.answer in
    on_ok_weaker c.take.result
    (λ p. λ old events left is.
    subst (λ n. HasGathered answers old events left (g.W.LedgerOut.text c.take.new.ledger) (g.L.Link.sent c.take.new.link) c.take.new.gathered n) (sym p.0)
    (taken answers old events left text sent c.args.gathered.now c.args.node.now (event_of (known c.args.line.now)) is c.in-Ok.out c.on.new.self given
    c.take.new.gathered _ _ p.1 p.4))
    c.take.ensures.ok

pub returns-in-Ok-clause-err : goal.returns-in-Ok-clause-err
returns-in-Ok-clause-err g c =
    let answers = g.N.Node.answers in
    let text = g.W.LedgerOut.text c.args.ledger.now in
    let sent = g.L.Link.sent c.args.link.now in
    let given = subst (λ (frame : List ℕ). answers c.args.node.now (Came frame) (Ok c.in-Ok.out) c.on.new.self) c.frame_of.ensures c.in-Ok.ensures.answer in
    all_faults _ c.take.result (λ old events left is.
    untaken answers old events left text sent c.args.gathered.now c.args.node.now (event_of (known c.args.line.now)) is c.in-Ok.out c.on.new.self given
    g.N.Node.is_stopped (scene c.take.new.node (g.W.LedgerOut.text c.take.new.ledger) (g.L.Link.sent c.take.new.link)) c.take.result c.take.ensures.faults
    (λ e. let p = c.take.ensures.link e in (p.0, p.1, p.2))
    (λ e. let p = c.take.ensures.ledger e in (p.0, p.1, p.2)))

pub returns-in_err-fulfil-in-Err-clause-err : goal.returns-in_err-fulfil-in-Err-clause-err
returns-in_err-fulfil-in-Err-clause-err g c =
    let answers = g.N.Node.answers in
    let text = g.W.LedgerOut.text c.args.ledger.now in
    let sent = g.L.Link.sent c.args.link.now in
    let p = err_from_is_err_and c.from_residual.result c.from_residual.ensures.1 in
    let event = event_of (known c.args.line.now) in
    let given = subst (λ (frame : List ℕ). answers c.args.node.now (Came frame) (Err c.in-Err.fault) c.on.new.self) c.frame_of.ensures c.in-Err.ensures.answer in
    rw (p.1, p.2) (λ old events left is.
    unfulfilled answers g.N.Node.is_stopped old events (event ∷ []) left text sent c.args.gathered.now c.args.node.now c.on.new.self is (c.in-Err.fault, given)
    (scene c.fulfil.new.node (g.W.LedgerOut.text c.fulfil.new.ledger) (g.L.Link.sent c.fulfil.new.link)) _ c.in_err-fulfil-in-Err.ensures.faults
    (λ e. let q = c.in_err-fulfil-in-Err.ensures.link e in (q.0, q.1, q.2))
    (λ e. let q = c.in_err-fulfil-in-Err.ensures.ledger e in (q.0, q.1, q.2)))

pub returns-in_ok-fulfil-in-Err-clause-err : goal.returns-in_ok-fulfil-in-Err-clause-err
returns-in_ok-fulfil-in-Err-clause-err g c =
    let answers = g.N.Node.answers in
    let text = g.W.LedgerOut.text c.args.ledger.now in
    let sent = g.L.Link.sent c.args.link.now in
    let event = event_of (known c.args.line.now) in
    let given = subst (λ (frame : List ℕ). answers c.args.node.now (Came frame) (Err c.in-Err.fault) c.on.new.self) c.frame_of.ensures c.in-Err.ensures.answer in
    let ok = c.in_ok-fulfil-in-Err.ensures.ok in
    λ old events left is.
    node_faulted answers g.N.Node.is_stopped old events left text sent c.args.gathered.now c.args.node.now event is c.in-Err.fault
    (scene c.fulfil.new.node (g.W.LedgerOut.text c.fulfil.new.ledger) (g.L.Link.sent c.fulfil.new.link))
    (subst (λ n. answers c.args.node.now event (Err c.in-Err.fault) n) (sym ok.0) given) ok.1 ok.2
