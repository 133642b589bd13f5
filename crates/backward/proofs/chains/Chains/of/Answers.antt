use Rattle.std.proofs.Common.{◌≡◌, ℕ, ◌+◌, ◌-◌, ◌*◌, ap, subst, ◌∙◌, arith, get_or, set, length-set}
use Rattle.backward.specs.inside.{next_of, AreChains}
use Rattle.backward.proofs.Counting.{target_by, chains_passed, chains_more}
use Rattle.backward.proofs.chains.Chains.of.Goals as goal

pub loop-done-preserved-in_default : goal.loop-done-preserved-in_default
loop-done-preserved-in_default c =
    let p = c.args.table.now in
    let place = 2 * c.states-places.result - 1 - c.loop-done.done in
    let kept = c.loop-done.invariant in
    let before : 2 * p.states - c.loop-done.done ≡ place + 1 = omega (arith, c.states-places.ensures.states, c.loop-done-test.true) in
    let now : place ≡ 2 * p.states - (c.loop-done.done + 1) = omega (arith, c.states-places.ensures.states) in
    let target = target_by p place _ _ _ c.pair_at-pair.ensures.state c.pair_at-pair.ensures.symbol c.get.ensures.entry in
    record {
      firsts = kept.firsts;
      nexts = kept.nexts;
      chains = subst (λ (i : ℕ). AreChains p i c.loop-done.first c.loop-done.next) now
          (chains_passed p place c.loop-done.first c.loop-done.next (target ∙ ap next_of c.in_default.is) (subst (λ (i : ℕ). AreChains p i c.loop-done.first c.loop-done.next) before kept.chains));
    }

pub loop-done-preserved : goal.loop-done-preserved
loop-done-preserved c =
    let p = c.args.table.now in
    let place = 2 * c.states-places.result - 1 - c.loop-done.done in
    let state = c.in-Some.entry.next.0 in
    let kept = c.loop-done.invariant in
    let before : 2 * p.states - c.loop-done.done ≡ place + 1 = omega (arith, c.states-places.ensures.states, c.loop-done-test.true) in
    let now : place ≡ 2 * p.states - (c.loop-done.done + 1) = omega (arith, c.states-places.ensures.states) in
    let target = target_by p place _ _ _ c.pair_at-pair.ensures.state c.pair_at-pair.ensures.symbol c.get.ensures.entry in
    let first = set c.loop-done.first state place in
    let next = set c.loop-done.next place (get_or c.loop-done.first state 0) in
    record {
      firsts = length-set c.loop-done.first state place ∙ kept.firsts;
      nexts = length-set c.loop-done.next place (get_or c.loop-done.first state 0) ∙ kept.nexts;
      chains = subst (λ (i : ℕ). AreChains p i first next) now
          (chains_more p place state c.loop-done.first c.loop-done.next (target ∙ ap next_of c.in-Some.is) (omega (arith, c.states-places.ensures.states, c.loop-done-test.true))
          (omega (arith, c.in-Some.ensures.next, c.states-places.ensures.table.limit)) kept.firsts (omega (arith, kept.nexts, c.states-places.ensures.table.limit))
          (subst (λ (i : ℕ). AreChains p i c.loop-done.first c.loop-done.next) before kept.chains));
    }
