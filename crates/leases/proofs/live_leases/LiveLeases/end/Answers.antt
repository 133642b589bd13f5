use Rattle.std.proofs.Common.{◌≡◌, ◌<◌, ℕ, List, Option, Some, length, map, nat_eq, sym, ◌∙◌, ap, subst, arith}
use Rattle.std.proofs.lemmas.List.{length-map}
use Rattle.indexmap.specs.IndexMap.{get as number_of}
use Rattle.indexmap.proofs.SetLemmas.{map-remove}
use Rattle.leases.specs.inside.{AreNotBefore, AreOfWorkers, RiseByNumber, StandsAt, StoredLease, stored_lease, without}
use Rattle.leases.proofs.Moments.{read_at, fewer_not_before}
use Rattle.leases.proofs.LiveLaws.{missing, removed_is, still_rise, without_none, workers_removed}
use Rattle.leases.proofs.live_leases.LiveLeases.end.Goals as goal

pub returns-in_default : goal.returns-in_default
returns-in_default c = sym (without_none c.args.self.now) ∙ ap (λ (which : Option ℕ). without which c.args.self.now) (sym c.in_default.is)

pub returns-in_default-place : goal.returns-in_default-place
returns-in_default-place c =
    sym (missing c.in-Some.number c.args.self.now c.in_default-place.ensures.none) ∙ ap (λ (which : Option ℕ). without which c.args.self.now) (sym c.in-Some.is)

pub invariant_of-self : goal.invariant_of-self
invariant_of-self c =
    let n = c.in-Some.number in
    let items = c.self.inside.leases.items in
    let ls = map stored_lease items in
    let place = c.in-Some-place.place in
    let at : StandsAt n ls place = subst (λ (xs : List StoredLease). StandsAt n xs place) (sym c.self.view_is) c.in-Some-place.ensures.at in
    let within = at.0 in
    let below : place < length items = omega (arith, within, length-map items stored_lease) in
    let v = stored_lease c.in-Some-remove.lease in
    let there = read_at items place c.in-Some-remove.lease below c.in-Some-remove.ensures.value v in
    let number : v.number ≡ n = sym (ap (λ (l : StoredLease). l.number) there) ∙ at.1 v in
    let gone : map stored_lease c.remove.new.self.items ≡ without (Some n) ls = ap (map stored_lease) c.in-Some-remove.ensures.items ∙ (map-remove stored_lease items place ∙ removed_is n ls place c.self.invariant.0 at) in
    let next = number_of nat_eq c.swap_remove.new.self in
    subst (λ (xs : List StoredLease). RiseByNumber xs × AreOfWorkers next xs × AreNotBefore c.self.inside.earliest xs) (sym gone) (
      still_rise (Some n) ls c.self.invariant.0,
      workers_removed (number_of nat_eq c.self.inside.of_worker) next ls n v c.self.invariant.0 c.self.invariant.1 (place, at.0, there) number c.swap_remove.ensures.updates.0,
      fewer_not_before (Some n) c.self.inside.earliest ls c.self.invariant.2,
    )

pub returns : goal.returns
returns c =
    let n = c.in-Some.number in
    let items = c.self.inside.leases.items in
    let ls = map stored_lease items in
    let place = c.in-Some-place.place in
    let at : StandsAt n ls place = subst (λ (xs : List StoredLease). StandsAt n xs place) (sym c.self.view_is) c.in-Some-place.ensures.at in
    ap (map stored_lease) c.in-Some-remove.ensures.items ∙ (map-remove stored_lease items place ∙ (removed_is n ls place c.self.invariant.0 at
    ∙ (ap (without (Some n)) c.self.view_is ∙ ap (λ (which : Option ℕ). without which c.args.self.now) (sym c.in-Some.is))))
