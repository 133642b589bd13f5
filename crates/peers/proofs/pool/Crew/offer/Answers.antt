use Rattle.std.proofs.Common.{refl, arith, ◌≡◌, ◌<◌, ◌-◌, ◌∙◌, ℕ, Ok, Err, length, sym, subst, ap}
use Rattle.std.proofs.lemmas.Result.{err_from_is_err_and}
use Rattle.peers.specs.Crew.{hall, Offers, next_place}
use Rattle.peers.proofs.Cores.{next_within, offers_fault, offers_more, offers_none, offers_taken}
use Rattle.peers.proofs.pool.Crew.offer.Goals as goal

pub returns-in_err-out-clause-offers : goal.returns-in_err-out-clause-offers
returns-in_err-out-clause-offers g c =
    let p = err_from_is_err_and c.from_residual.result c.from_residual.ensures.1 in
    let at = hall c.offers.self (g.L.Link.sent c.offers.link) in
    let new = hall c.hand.new.self (g.L.Link.sent c.hand.new.link) in
    rw (p.1, p.2)
    (c.offers.invariant.offers (Err c.in_err-out.field-0.0) new
    (offers_fault g.N.Node.answers g.N.Node.is_stopped g.W.LedgerOut.text c.offers.left c.offers.place c.args.frame.now at new c.in_err-out.field-0.0
    c.offers-test.true c.in_err-out.ensures.handed))

pub returns-then-has_it-clause-offers : goal.returns-then-has_it-clause-offers
returns-then-has_it-clause-offers g c =
    let at = hall c.offers.self (g.L.Link.sent c.offers.link) in
    let mid = hall c.hand.new.self (g.L.Link.sent c.hand.new.link) in
    let new = hall c.take_word.new.self (g.L.Link.sent c.hand.new.link) in
    c.offers.invariant.offers (Ok tt) new
    (offers_taken g.N.Node.answers g.N.Node.is_stopped g.W.LedgerOut.text c.offers.left c.offers.place c.args.frame.now at mid new c.in_ok-out.out
    c.offers-test.true c.in_ok-out.ensures.handed (sym c.has_it.ensures ∙ c.if-has_it.true) c.take_word.ensures.taken refl)

pub returns-then-has_it-clause-step : goal.returns-then-has_it-clause-step
returns-then-has_it-clause-step g c =
    λ other h. c.take_word.ensures.step (c.in_ok-out.ensures.step (λ e. cc) (c.offers.invariant.step h))

pub offers-preserved : goal.offers-preserved
offers-preserved g c =
    let at = hall c.offers.self (g.L.Link.sent c.offers.link) in
    let mid = hall c.hand.new.self (g.L.Link.sent c.hand.new.link) in
    let behind : c.next_place-place.result ≡ next_place (length c.hand.new.self.cores) c.offers.place =
    c.next_place-place.ensures ∙ ap (λ (count : ℕ). next_place count c.offers.place) c.count.ensures in
    let was_within = c.offers.invariant.within c.offers-test.true in
    let same = c.in_ok-out.ensures.count in
    let within : c.offers.place < length c.hand.new.self.cores = omega arith in
    record {
      offers = λ result new h.
          c.offers.invariant.offers result new
          (offers_more g.N.Node.answers g.N.Node.is_stopped g.W.LedgerOut.text c.offers.left c.offers.place c.args.frame.now result at mid new c.in_ok-out.out
          c.offers-test.true c.in_ok-out.ensures.handed (sym c.has_it.ensures ∙ c.if-has_it.false)
          (subst (λ (p : ℕ). Offers g.N.Node.answers g.N.Node.is_stopped g.W.LedgerOut.text (c.offers.left - 1) p c.args.frame.now result mid new) behind h));
      within = λ some. subst (λ (p : ℕ). p < length c.hand.new.self.cores) (sym behind) (next_within (length c.hand.new.self.cores) c.offers.place within);
      step = λ h. c.in_ok-out.ensures.step (λ e. cc) (c.offers.invariant.step h);
      count = c.in_ok-out.ensures.count ∙ c.offers.invariant.count;
      waiting = c.in_ok-out.ensures.waiting ∙ c.offers.invariant.waiting;
    }

pub returns-clause-offers : goal.returns-clause-offers
returns-clause-offers g c =
    let test = c.offers-test.false in
    let none : c.offers.left ≡ 0 = omega arith in
    let at = hall c.offers.self (g.L.Link.sent c.offers.link) in
    c.offers.invariant.offers (Ok tt) at
    (subst (λ (left : ℕ). Offers g.N.Node.answers g.N.Node.is_stopped g.W.LedgerOut.text left c.offers.place c.args.frame.now (Ok tt) at at) (sym none)
    (offers_none g.N.Node.answers g.N.Node.is_stopped g.W.LedgerOut.text c.offers.place c.args.frame.now at))
