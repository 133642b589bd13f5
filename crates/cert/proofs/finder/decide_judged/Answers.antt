use Rattle.std.proofs.Common.{rules}
use Rattle.cert.proofs.Claims.{one_taken, one_left, asked_none, asked_more, asked_found, asked_all}
use Rattle.cert.proofs.finder.decide_judged.Goals as goal

pub loop-finder-init : goal.loop-finder-init
loop-finder-init g c = asked_none _ _ _

pub returns-in-Some-clause-order : goal.returns-in-Some-clause-order
returns-in-Some-clause-order g c =
    let given = c.in_ok-decided.ensures in
    let one = one_taken _ given.0 _ _ c.in-Some.is given.2 in
    asked_found _ _ _ _ _ c.finder-item.result given.0 _ c.loop-finder.invariant (search rules) given.1 one.0 one.1

pub loop-finder-preserved : goal.loop-finder-preserved
loop-finder-preserved g c =
    let given = c.in_ok-decided.ensures in
    asked_more _ _ _ _ _ c.finder-item.result _ given.0 c.loop-finder.invariant (search rules) given.1 (one_left _ given.0 _ c.in_default.is given.2)

pub returns-clause-order : goal.returns-clause-order
returns-clause-order g c = asked_all _ _ _ _ _ c.loop-finder.invariant (search rules)
