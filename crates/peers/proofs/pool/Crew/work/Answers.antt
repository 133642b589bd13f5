use Rattle.std.proofs.Common.{arith, ◌≡◌, ◌<◌, ◌-◌, ◌+◌, ◌∙◌, ℕ, suc, Ok, Err, length, sym, subst}
use Rattle.std.proofs.lemmas.Result.{err_from_is_err_and}
use Rattle.peers.specs.Crew.{hall, ServesFrom}
use Rattle.peers.proofs.Cores.{serves_fault, serves_more, serves_none}
use Rattle.peers.proofs.pool.Crew.work.Goals as goal

pub returns-in_err-serve-clause-works : goal.returns-in_err-serve-clause-works
returns-in_err-serve-clause-works g c =
    let p = err_from_is_err_and c.from_residual.result c.from_residual.ensures.1 in
    let some : 0 < length c.args.self.now.cores - c.loop-place.place = omega (arith, c.loop-place-test.true, c.count-place-end.ensures) in
    let at = hall c.loop-place.self (g.L.Link.sent c.loop-place.link) in
    let new = hall c.serve.new.self (g.L.Link.sent c.serve.new.link) in
    rw (p.1, p.2)
    (c.loop-place.invariant.serves (Err c.in_err-serve.field-0.0) new
    (serves_fault g.N.Node.answers g.N.Node.is_stopped g.W.LedgerOut.text 4096 _ c.loop-place.place at new c.in_err-serve.field-0.0 some
    c.in_err-serve.ensures.serves))

pub loop-place-preserved : goal.loop-place-preserved
loop-place-preserved g c =
    let some : 0 < length c.args.self.now.cores - c.loop-place.place = omega (arith, c.loop-place-test.true, c.count-place-end.ensures) in
    let at = hall c.loop-place.self (g.L.Link.sent c.loop-place.link) in
    let mid = hall c.serve.new.self (g.L.Link.sent c.serve.new.link) in
    let fewer : length c.args.self.now.cores - (c.loop-place.place + 1) ≡ length c.args.self.now.cores - c.loop-place.place - 1 = omega arith in
    let behind : c.loop-place.place + 1 ≡ suc c.loop-place.place = omega arith in
    record {
      serves = λ result new h.
          c.loop-place.invariant.serves result new
          (serves_more g.N.Node.answers g.N.Node.is_stopped g.W.LedgerOut.text 4096 _ c.loop-place.place result at mid new some c.in_ok-serve.ensures.serves
          (subst (λ (n : ℕ). ServesFrom g.N.Node.answers g.N.Node.is_stopped g.W.LedgerOut.text 4096 n (suc c.loop-place.place) result mid new) fewer
          (subst (λ (p : ℕ). ServesFrom g.N.Node.answers g.N.Node.is_stopped g.W.LedgerOut.text 4096 (length c.args.self.now.cores - (c.loop-place.place + 1)) p result mid new) behind h)));
      step = λ h. c.in_ok-serve.ensures.step (λ e. cc) (c.loop-place.invariant.step h);
      count = c.in_ok-serve.ensures.count ∙ c.loop-place.invariant.count;
      waiting = c.in_ok-serve.ensures.waiting ∙ c.loop-place.invariant.waiting;
    }

pub returns-clause-works : goal.returns-clause-works
returns-clause-works g c =
    let none : length c.args.self.now.cores - c.loop-place.place ≡ 0 = omega (arith, c.loop-place-test.false, c.count-place-end.ensures) in
    let at = hall c.loop-place.self (g.L.Link.sent c.loop-place.link) in
    c.loop-place.invariant.serves (Ok tt) at
    (subst (λ (n : ℕ). ServesFrom g.N.Node.answers g.N.Node.is_stopped g.W.LedgerOut.text 4096 n c.loop-place.place (Ok tt) at at) (sym none)
    (serves_none g.N.Node.answers g.N.Node.is_stopped g.W.LedgerOut.text 4096 c.loop-place.place at))
