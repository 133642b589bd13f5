use Rattle.std.proofs.Common.{◌≡◌, ◌<◌, ◌+◌, ◌++◌, ◌∷◌, [], ℕ, List, map, length, take, take_all, refl, sym, ◌∙◌, ap, subst, arith}
use Rattle.std.proofs.lemmas.List.{length-map}
use Rattle.std.proofs.lemmas.Result.{err_from_is_err_and}
use Rattle.leases.specs.inside.{AreDue, AreNotBefore, due_of, as_lease, stored_lease}
use Rattle.leases.proofs.Moments.{are_due, due_more, ends_there, first_more, read_at}
use Rattle.leases.proofs.held_leases.list_ended.Goals as goal

pub returns-in_err-list_if_ended-clause-err : goal.returns-in_err-list_if_ended-clause-err
returns-in_err-list_if_ended-clause-err c =
    let items = c.args.leases.now.items in
    let within = c.in-Some.ensures.variant.0 refl in
    let long = c.args.leases.now.ok.0 in
    let below : c.loop-place.place < length items = omega (arith, within, long) in
    let p = err_from_is_err_and c.from_residual.result c.from_residual.ensures.1 in
    rw p.1 (ends_there c.args.moment items c.loop-place.place c.in-Some.lease.now below c.in-Some.ensures.lookup c.in_err-list_if_ended.ensures.err)

pub loop-place-preserved : goal.loop-place-preserved
loop-place-preserved c =
    let items = c.args.leases.now.items in
    let ls = map stored_lease items in
    let i = c.loop-place.place in
    let l = stored_lease c.in-Some.lease.now in
    let within = c.in-Some.ensures.variant.0 refl in
    let long = c.args.leases.now.ok.0 in
    let below : i < length items = omega (arith, within, long) in
    let there = read_at items i c.in-Some.lease.now below c.in-Some.ensures.lookup l in
    let below_ls : i < length ls = omega (arith, below, length-map items stored_lease) in
    record {
      listed = c.in_ok-list_if_ended.ensures.ok ∙ (ap (λ (ns : List ℕ). ns ++ due_of c.args.moment (l ∷ [])) c.loop-place.invariant.listed ∙ sym (due_more c.args.moment ls i l below_ls there));
      first = subst (λ (m : ℕ). AreNotBefore m (take (i + 1) ls)) (sym c.min-earliest.ensures) (first_more c.loop-place.earliest ls i l below_ls there c.loop-place.invariant.first);
    }

pub returns-clause-earliest : goal.returns-clause-earliest
returns-clause-earliest c =
    let items = c.args.leases.now.items in
    let ls = map stored_lease items in
    let over = c.loop-place-test.false in
    let count = c.len-place-end.ensures in
    let long = c.args.leases.now.ok.0 in
    let all : take c.loop-place.place ls ≡ ls = take_all c.loop-place.place ls (omega (arith, over, count, long, length-map items stored_lease)) in
    subst (AreNotBefore c.loop-place.earliest) all c.loop-place.invariant.first

pub returns-clause-due : goal.returns-clause-due
returns-clause-due c =
    let items = c.args.leases.now.items in
    let ls = map stored_lease items in
    let over = c.loop-place-test.false in
    let count = c.len-place-end.ensures in
    let long = c.args.leases.now.ok.0 in
    let all : take c.loop-place.place ls ≡ ls = take_all c.loop-place.place ls (omega (arith, over, count, long, length-map items stored_lease)) in
    subst (AreDue c.args.moment (map as_lease ls)) (sym (c.loop-place.invariant.listed ∙ ap (due_of c.args.moment) all)) (are_due c.args.moment ls c.requires.rising)
