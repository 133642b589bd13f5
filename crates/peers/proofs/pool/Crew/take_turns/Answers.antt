use Rattle.std.proofs.Common.{arith, ◌≡◌, ◌∙◌, ℕ, Ok, Err, refl, sym, subst}
use Rattle.std.proofs.lemmas.Result.{err_from_is_err_and}
use Rattle.peers.specs.Crew.{hall, Turns}
use Rattle.peers.proofs.Cores.{turns_fault, turns_last, turns_more, turns_none}
use Rattle.peers.proofs.pool.Crew.take_turns.Goals as goal

pub turns-init : goal.turns-init
turns-init g c = record {
  turns = λ result new h. h;
  step = λ h. h;
  count = refl;
  waiting = refl;
}

pub turns-preserved : goal.turns-preserved
turns-preserved g c = record {
  turns = λ result new h.
      c.turns.invariant.turns result new
      (turns_more g.N.Node.answers g.N.Node.is_stopped g.W.LedgerOut.text c.turns.left c.args.place result
      (hall c.turns.self (g.L.Link.sent c.turns.link)) (hall c.hand.new.self (g.L.Link.sent c.hand.new.link)) new c.in_ok-out.out
      c.turns-test.true c.in_ok-out.ensures.handed (c.is_silent.ensures.other c.if-is_silent.false) h);
  step = λ h. c.in_ok-out.ensures.step (λ e. cc) (c.turns.invariant.step h);
  count = c.in_ok-out.ensures.count ∙ c.turns.invariant.count;
  waiting = c.in_ok-out.ensures.waiting ∙ c.turns.invariant.waiting;
}

pub returns-in_err-out-clause-turns : goal.returns-in_err-out-clause-turns
returns-in_err-out-clause-turns g c =
    let p = err_from_is_err_and c.from_residual.result c.from_residual.ensures.1 in
    rw (p.1, p.2)
    (c.turns.invariant.turns (Err c.in_err-out.field-0.0) (hall c.hand.new.self (g.L.Link.sent c.hand.new.link))
    (turns_fault g.N.Node.answers g.N.Node.is_stopped g.W.LedgerOut.text c.turns.left c.args.place
    (hall c.turns.self (g.L.Link.sent c.turns.link)) (hall c.hand.new.self (g.L.Link.sent c.hand.new.link)) c.in_err-out.field-0.0
    c.turns-test.true c.in_err-out.ensures.handed))

pub returns-then-is_silent-clause-turns : goal.returns-then-is_silent-clause-turns
returns-then-is_silent-clause-turns g c =
    c.turns.invariant.turns (Ok tt) (hall c.hand.new.self (g.L.Link.sent c.hand.new.link))
    (turns_last g.N.Node.answers g.N.Node.is_stopped g.W.LedgerOut.text c.turns.left c.args.place
    (hall c.turns.self (g.L.Link.sent c.turns.link)) (hall c.hand.new.self (g.L.Link.sent c.hand.new.link)) c.in_ok-out.out
    c.turns-test.true c.in_ok-out.ensures.handed (c.is_silent.ensures.silent c.if-is_silent.true))

pub returns-clause-turns : goal.returns-clause-turns
returns-clause-turns g c =
    let test = c.turns-test.false in
    let none : c.turns.left ≡ 0 = omega arith in
    let at = hall c.turns.self (g.L.Link.sent c.turns.link) in
    c.turns.invariant.turns (Ok tt) at
    (subst (λ (left : ℕ). Turns g.N.Node.answers g.N.Node.is_stopped g.W.LedgerOut.text left c.args.place (Ok tt) at at) (sym none)
    (turns_none g.N.Node.answers g.N.Node.is_stopped g.W.LedgerOut.text c.args.place at))
