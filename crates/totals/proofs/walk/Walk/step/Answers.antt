use Rattle.std.proofs.Common.{subst, OnOk}
use Rattle.cert.specs.Terms.{owned_claim}
use Rattle.totals.specs.Totals.{totals_of, Walked, WalksOn}
use Rattle.totals.proofs.Walks.{answer_for, goes_on, judged_for, last_counted, last_in_order, last_read, still_of_records, with_ahead}
use Rattle.totals.proofs.walk.Walk.step.Goals as goal

pub take-requires-clause-in_order : goal.take-requires-clause-in_order
take-requires-clause-in_order g c =
    let w : Walked = record { root = c.self.inside.root; ahead = c.self.inside.ahead.items; totals = totals_of c.self.inside.sums } in
    let last = last_read c.self.inside.ahead.items c.deref.result.now c.in-Some.next.now c.deref.ensures.value c.in-Some.ensures.value in
    last_in_order w c.in-Some.next.now c.child_is_table.ensures.below c.child_is_table.ensures.order c.self.invariant last

pub take-requires-clause-nodes : goal.take-requires-clause-nodes
take-requires-clause-nodes g c =
    let w : Walked = record { root = c.self.inside.root; ahead = c.self.inside.ahead.items; totals = totals_of c.self.inside.sums } in
    let last = last_read c.self.inside.ahead.items c.deref.result.now c.in-Some.next.now c.deref.ensures.value c.in-Some.ensures.value in
    (last_counted w c.in-Some.next.now c.self.invariant last).0

pub take-requires-clause-open_count : goal.take-requires-clause-open_count
take-requires-clause-open_count g c =
    let w : Walked = record { root = c.self.inside.root; ahead = c.self.inside.ahead.items; totals = totals_of c.self.inside.sums } in
    let last = last_read c.self.inside.ahead.items c.deref.result.now c.in-Some.next.now c.deref.ensures.value c.in-Some.ensures.value in
    (last_counted w c.in-Some.next.now c.self.invariant last).1

pub invariant_of-self : goal.invariant_of-self
invariant_of-self g c =
    let w : Walked = record { root = c.self.inside.root; ahead = c.self.inside.ahead.items; totals = totals_of c.self.inside.sums } in
    let last = last_read c.self.inside.ahead.items c.deref.result.now c.in-Some.next.now c.deref.ensures.value c.in-Some.ensures.value in
    let t = c.in-Some.next.now in
    let made = c.in_ok-decided.decided in
    let answers = g.D.Decider.answers in
    let judged = judged_for made.record t made.judged c.in_ok-decided.ensures.table c.in_ok-decided.ensures.shown in
    let answered = answer_for _ answers c.args.decider.now made.record t c.in_ok-decided.ensures.table c.in_ok-decided.ensures.answers in
    let on = goes_on _ answers w t (owned_claim made.record.certificate) made.judged last judged c.args.decider.now answered c.take.result c.take.new.ahead.items (totals_of c.take.new.sums) c.take.ensures.takes in
    still_of_records _ answers w c.take.result c.take.new.ahead.items (totals_of c.take.new.sums) c.self.invariant on c.take.ensures.same_ahead c.take.ensures.same_totals

pub returns-clause-goes_on : goal.returns-clause-goes_on
returns-clause-goes_on g c =
    let w : Walked = record { root = c.self.inside.root; ahead = c.self.inside.ahead.items; totals = totals_of c.self.inside.sums } in
    let last = last_read c.self.inside.ahead.items c.deref.result.now c.in-Some.next.now c.deref.ensures.value c.in-Some.ensures.value in
    let t = c.in-Some.next.now in
    let made = c.in_ok-decided.decided in
    let answers = g.D.Decider.answers in
    let judged = judged_for made.record t made.judged c.in_ok-decided.ensures.table c.in_ok-decided.ensures.shown in
    let answered = answer_for _ answers c.args.decider.now made.record t c.in_ok-decided.ensures.table c.in_ok-decided.ensures.answers in
    let on = goes_on _ answers w t (owned_claim made.record.certificate) made.judged last judged c.args.decider.now answered c.take.result c.take.new.ahead.items (totals_of c.take.new.sums) c.take.ensures.takes in
    subst (λ (old : Walked). OnOk c.take.result (WalksOn _ answers old 1 (with_ahead w c.take.new.ahead.items (totals_of c.take.new.sums)))) c.self.view_is on
