use Rattle.std.proofs.Common.{◌≡◌, ◌<◌, ◌≤◌, List, Contains, get_or, length, map, nat_eq, sym, ◌∙◌, ap, subst, arith}
use Rattle.std.proofs.Math.ListN.{set}
use Rattle.std.proofs.lemmas.List.{length-map, map-set}
use Rattle.indexmap.specs.IndexMap.{get as number_of}
use Rattle.leases.specs.inside.{AreNotBefore, AreOfWorkers, RiseByNumber, StandsAt, StoredLease, stored_lease, Renews, RenewsOne}
use Rattle.leases.proofs.Moments.{kept_by_set, read_at}
use Rattle.leases.proofs.live_leases.LiveLeases.renew.Goals as goal

pub renew_lease-requires-clause-room : goal.renew_lease-requires-clause-room
renew_lease-requires-clause-room c =
    let items = c.self.inside.leases.items in
    let ls = map stored_lease items in
    let place = c.in-Some.place in
    let at : StandsAt c.args.number ls place = subst (λ (xs : List StoredLease). StandsAt c.args.number xs place) (sym c.self.view_is) c.in-Some.ensures.at in
    let within = at.0 in
    let below : place < length items = omega (arith, within, length-map items stored_lease) in
    let v = c.in-Some-get_mut.lease.now in
    let there : (d : StoredLease) → get_or ls place d ≡ stored_lease v = λ d. read_at items place v below c.in-Some-get_mut.ensures.value d in
    let number : v.number ≡ c.args.number = sym (ap (λ (l : StoredLease). l.number) (there (stored_lease v))) ∙ at.1 (stored_lease v) in
    c.requires.room (stored_lease v) (subst (λ (xs : List StoredLease). Contains xs (stored_lease v)) c.self.view_is (place, within, there (stored_lease v))) number

pub invariant_of-self : goal.invariant_of-self
invariant_of-self c =
    let items = c.self.inside.leases.items in
    let ls = map stored_lease items in
    let place = c.in-Some.place in
    let at : StandsAt c.args.number ls place = subst (λ (xs : List StoredLease). StandsAt c.args.number xs place) (sym c.self.view_is) c.in-Some.ensures.at in
    let within = at.0 in
    let below : place < length items = omega (arith, within, length-map items stored_lease) in
    let v = c.in-Some-get_mut.lease.now in
    let there : (d : StoredLease) → get_or ls place d ≡ stored_lease v = λ d. read_at items place v below c.in-Some-get_mut.ensures.value d in
    let w = c.renew_lease.new.lease in
    let now = c.renew_lease.ensures.renewed in
    let before = c.requires.ahead (stored_lease v) (subst (λ (xs : List StoredLease). Contains xs (stored_lease v)) c.self.view_is (place, within, there (stored_lease v))) in
    let later : v.renewed ≤ w.renewed = omega (arith, now, before) in
    subst (λ (xs : List StoredLease). RiseByNumber xs × AreOfWorkers (number_of nat_eq c.self.inside.of_worker) xs × AreNotBefore c.self.inside.earliest xs) (sym (map-set stored_lease items place w))
    (kept_by_set (number_of nat_eq c.self.inside.of_worker) c.self.inside.earliest ls place (stored_lease v) (stored_lease w) within there c.renew_lease.ensures.number c.renew_lease.ensures.id later c.self.invariant)

pub returns : goal.returns
returns c =
    let items = c.self.inside.leases.items in
    let ls = map stored_lease items in
    let place = c.in-Some.place in
    let at : StandsAt c.args.number ls place = subst (λ (xs : List StoredLease). StandsAt c.args.number xs place) (sym c.self.view_is) c.in-Some.ensures.at in
    let within = at.0 in
    let below : place < length items = omega (arith, within, length-map items stored_lease) in
    let v = c.in-Some-get_mut.lease.now in
    let there : (d : StoredLease) → get_or ls place d ≡ stored_lease v = λ d. read_at items place v below c.in-Some-get_mut.ensures.value d in
    let w = c.renew_lease.new.lease in
    subst (λ (xs : List StoredLease). RenewsOne c.args.board.now c.args.t.now c.args.number c.args.moment xs (map stored_lease (set items place w)) c.args.came.now.entries c.renew_lease.new.came.entries) c.self.view_is (
      place,
      stored_lease w,
      within,
      sym (at.1 (stored_lease w)),
      map-set stored_lease items place w,
      subst (λ (l : StoredLease). Renews c.args.board.now c.args.t.now c.args.moment l (stored_lease w) c.args.came.now.entries c.renew_lease.new.came.entries) (sym (there (stored_lease w))) c.renew_lease.ensures,
    )
