use Rattle.std.proofs.Common.{Ok, Err, ap, refl}
use Rattle.std.proofs.lemmas.Result.{err_from_is_err_and}
use Rattle.peers.specs.Crew.{Crewed, hall}
use Rattle.peers.proofs.Cores.{oldest_answered}
use Rattle.peers.proofs.pool.Crew.answer_oldest.Goals as goal

pub returns-in_err-out-clause-answers : goal.returns-in_err-out-clause-answers
returns-in_err-out-clause-answers g c =
    let p = err_from_is_err_and c.from_residual.result c.from_residual.ensures.1 in
    let old = hall c.args.self.now (g.L.Link.sent c.args.link.now) in
    let mid = hall c.take_oldest.new.self (g.L.Link.sent c.args.link.now) in
    let new = hall c.hand.new.self (g.L.Link.sent c.hand.new.link) in
    let took = c.in-Some.ensures.some in
    rw (p.1, p.2)
    (oldest_answered g.N.Node.answers g.N.Node.is_stopped g.W.LedgerOut.text c.args.course c.args.frame.now c.args.self.now.asks took.1 c.in-Some.place took.0
    (Err c.in_err-out.field-0.0) old mid new new took.2 took.3
    (ap (λ (crew : Crewed g.row.N.Denot g.row.W.Denot). hall crew (g.L.Link.sent c.args.link.now)) took.4) c.in_err-out.ensures.handed refl)

pub returns-clause-answers : goal.returns-clause-answers
returns-clause-answers g c =
    let old = hall c.args.self.now (g.L.Link.sent c.args.link.now) in
    let mid = hall c.take_oldest.new.self (g.L.Link.sent c.args.link.now) in
    let at = hall c.hand.new.self (g.L.Link.sent c.hand.new.link) in
    let new = hall c.heed.new.self (g.L.Link.sent c.hand.new.link) in
    let took = c.in-Some.ensures.some in
    oldest_answered g.N.Node.answers g.N.Node.is_stopped g.W.LedgerOut.text c.args.course c.args.frame.now c.args.self.now.asks took.1 c.in-Some.place took.0
    (Ok c.in_ok-out.out) old mid at new took.2 took.3
    (ap (λ (crew : Crewed g.row.N.Denot g.row.W.Denot). hall crew (g.L.Link.sent c.args.link.now)) took.4) c.in_ok-out.ensures.handed (c.heed.ensures.heeds, refl)
