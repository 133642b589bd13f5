use Rattle.std.proofs.Common.{arith, ◌≡◌, ◌-◌, subst, ap, ℕ, List, [], ◌∷◌, ◌++◌}
use Rattle.std.specs.Prelude.{replicate}
use Rattle.std.proofs.lemmas.Result.{on_ok_weaker, IfErr-weaker, err_from_is_err_and}
use Rattle.cmd_nodes.specs.Served.{events_of_round}
use Rattle.wire.specs.Terms.{Handed, scene, Happening, Ticked, Worked}
use Rattle.wire.proofs.Answers.{handed_more}
use Rattle.cmd_nodes.proofs.NodeRounds.{works_next}
use Rattle.cmd_nodes.proofs.rounds.work.Goals as goal

pub returns-in_err-handle-clause-err : goal.returns-in_err-handle-clause-err
returns-in_err-handle-clause-err g c =
    let p = err_from_is_err_and c.from_residual.result c.from_residual.ensures.1 in
    let old = scene c.args.node.now (g.W.LedgerOut.text c.args.ledger.now) (g.L.Link.sent c.args.link.now) in
    let at = scene c.turns.node (g.W.LedgerOut.text c.turns.ledger) (g.L.Link.sent c.turns.link) in
    let left : List Happening = replicate (c.turns.left - 1) Worked ++ (Ticked c.args.round ∷ []) in
    let before : Handed g.N.Node.answers old (events_of_round c.args.round) (Worked ∷ left) at =
    subst (λ (events : List Happening). Handed g.N.Node.answers old (events_of_round c.args.round) events at)
    (works_next c.turns.left (Ticked c.args.round ∷ []) c.turns-test.true) c.turns.invariant.handed in
    rw (p.1, p.2) (left, record { event = Worked; at = at; before = before; faulted = c.in_err-handle.ensures.err })

pub turns-preserved : goal.turns-preserved
turns-preserved g c =
    let old = scene c.args.node.now (g.W.LedgerOut.text c.args.ledger.now) (g.L.Link.sent c.args.link.now) in
    let at = scene c.turns.node (g.W.LedgerOut.text c.turns.ledger) (g.L.Link.sent c.turns.link) in
    let new = scene c.handle.new.node (g.W.LedgerOut.text c.handle.new.ledger) (g.L.Link.sent c.handle.new.link) in
    let left : List Happening = replicate (c.turns.left - 1) Worked ++ (Ticked c.args.round ∷ []) in
    let before : Handed g.N.Node.answers old (events_of_round c.args.round) (Worked ∷ left) at =
    subst (λ (events : List Happening). Handed g.N.Node.answers old (events_of_round c.args.round) events at)
    (works_next c.turns.left (Ticked c.args.round ∷ []) c.turns-test.true) c.turns.invariant.handed in
    let done = c.in_ok-handle.ensures.ok in
    record {
      handed =
          handed_more g.N.Node.answers old at new (events_of_round c.args.round) left Worked done.0 before done.1
          (ap (λ s. s.text) done.2) (ap (λ s. s.sent) done.2);
      step = λ h. c.in_ok-handle.ensures.step (λ e. cc) (c.turns.invariant.step h);
    }

pub returns-clause-ok : goal.returns-clause-ok
returns-clause-ok g c =
    let old = scene c.args.node.now (g.W.LedgerOut.text c.args.ledger.now) (g.L.Link.sent c.args.link.now) in
    let at = scene c.turns.node (g.W.LedgerOut.text c.turns.ledger) (g.L.Link.sent c.turns.link) in
    let new = scene c.handle-2.new.node (g.W.LedgerOut.text c.handle-2.new.ledger) (g.L.Link.sent c.handle-2.new.link) in
    let test = c.turns-test.false in
    let none : c.turns.left ≡ 0 = omega arith in
    let before : Handed g.N.Node.answers old (events_of_round c.args.round) (Ticked c.args.round ∷ []) at =
    subst (λ (n : ℕ). Handed g.N.Node.answers old (events_of_round c.args.round) (replicate n Worked ++ (Ticked c.args.round ∷ [])) at)
    none c.turns.invariant.handed in
    on_ok_weaker c.handle-2.result
    (λ done. handed_more g.N.Node.answers old at new (events_of_round c.args.round) [] (Ticked c.args.round) done.0 before done.1
    (ap (λ s. s.text) done.2) (ap (λ s. s.sent) done.2))
    c.handle-2.ensures.ok

pub returns-clause-err : goal.returns-clause-err
returns-clause-err g c =
    let old = scene c.args.node.now (g.W.LedgerOut.text c.args.ledger.now) (g.L.Link.sent c.args.link.now) in
    let at = scene c.turns.node (g.W.LedgerOut.text c.turns.ledger) (g.L.Link.sent c.turns.link) in
    let test = c.turns-test.false in
    let none : c.turns.left ≡ 0 = omega arith in
    let before : Handed g.N.Node.answers old (events_of_round c.args.round) (Ticked c.args.round ∷ []) at =
    subst (λ (n : ℕ). Handed g.N.Node.answers old (events_of_round c.args.round) (replicate n Worked ++ (Ticked c.args.round ∷ [])) at)
    none c.turns.invariant.handed in
    IfErr-weaker c.handle-2.result _ _
    (λ fault faulted. ([], record { event = Ticked c.args.round; at = at; before = before; faulted = faulted }))
    c.handle-2.ensures.err
