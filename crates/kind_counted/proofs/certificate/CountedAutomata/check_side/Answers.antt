use Rattle.std.proofs.Common.{◌≡◌, ◌<◌, length, subst, arith}
use Rattle.law_machines.specs.Terms.{Coset, CountedSystem}
use Rattle.kind_counted.specs.Items.{coset_of}
use Rattle.kind_counted.specs.Certificate.{counted_of}
use Rattle.kind_counted.specs.inside.Judging.{AreSettled}
use Rattle.kind_counted.proofs.SettlingLaws.{settled_more, settled_all}
use Rattle.kind_counted.proofs.certificate.CountedAutomata.check_side.Goals as goal

pub loop-q-preserved : goal.loop-q-preserved
loop-q-preserved c =
    let w : CountedSystem = counted_of c.args.self.now in
    let sets = c.args.used.now.sets.items in
    let at = c.args.item.now.at in
    let k : Coset = coset_of c.args.item.now.coset in
    let side = c.args.step.side in
    let by = c.args.step.by in
    let next = c.args.step.next in
    let q = c.loop-q.q in
    let below : q < 100 = omega (arith, c.on.result.now.few, c.on.result.now.states.ok.0, c.loop-q-test.true) in
    record {
      settled = settled_more w at k side by next q c.loop-q.invariant.settled c.in_ok-check_from.ensures.settles c.in_ok-check_from-2.ensures.settles;
    }

pub returns-clause-settles : goal.returns-clause-settles
returns-clause-settles c =
    let w : CountedSystem = counted_of c.args.self.now in
    let k : Coset = coset_of c.args.item.now.coset in
    let step = c.args.step in
    let states = c.on.result.now.states in
    let end : c.loop-q.q ≡ length states.items = omega (arith, states.ok.0) in
    settled_all w c.args.item.now.at k step.side step.by step.next states.items c.on.ensures
    (subst (AreSettled w c.args.item.now.at k step.side step.by step.next) end c.loop-q.invariant.settled)
