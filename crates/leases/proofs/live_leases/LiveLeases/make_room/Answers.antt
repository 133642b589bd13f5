use Rattle.std.proofs.Common.{◌≡◌, ◌<◌, ◌≤◌, List, get_or, length, map, nat_eq, refl, sym, ◌∙◌, ap, subst, arith}
use Rattle.std.proofs.Math.ListN.{set}
use Rattle.std.proofs.Math.Seq.{map-set_same}
use Rattle.std.proofs.lemmas.List.{length-map, map-set}
use Rattle.indexmap.specs.IndexMap.{get as number_of}
use Rattle.machine_text.specs.Terms.{Packed}
use Rattle.leases.specs.Limits.{child_limit}
use Rattle.leases.specs.declared.held_leases.HeldLease.{HeldLease}
use Rattle.leases.specs.inside.{AreNotBefore, AreOfWorkers, RiseByNumber, StandsAt, StoredLease, stored_lease, as_lease, HasRoomForChildren, shown}
use Rattle.leases.proofs.Moments.{kept_by_set, read_at, set_there}
use Rattle.leases.proofs.LiveLaws.{if_ok, room_none, room_one}
use Rattle.leases.proofs.live_leases.LiveLeases.make_room.Goals as goal

pub returns-in_default-clause-ok : goal.returns-in_default-clause-ok
returns-in_default-clause-ok c = room_none c.args.number c.args.self.now c.in_default.ensures.none

pub invariant_of-self : goal.invariant_of-self
invariant_of-self c =
    let items = c.self.inside.leases.items in
    let ls = map stored_lease items in
    let place = c.in-Some.place in
    let at : StandsAt c.args.number ls place = subst (λ (xs : List StoredLease). StandsAt c.args.number xs place) (sym c.self.view_is) c.in-Some.ensures.at in
    let within = at.0 in
    let below : place < length items = omega (arith, within, length-map items stored_lease) in
    let v = c.in-Some-get_mut.lease.now in
    let there : (d : StoredLease) → get_or ls place d ≡ stored_lease v = λ d. read_at items place v below c.in-Some-get_mut.ensures.value d in
    let w : HeldLease = record { number = v.number; id = v.id; renewed = v.renewed; tables = c.reserve.new.self } in
    subst (λ (xs : List StoredLease). RiseByNumber xs × AreOfWorkers (number_of nat_eq c.self.inside.of_worker) xs × AreNotBefore c.self.inside.earliest xs) (sym (map-set stored_lease items place w))
    (kept_by_set (number_of nat_eq c.self.inside.of_worker) c.self.inside.earliest ls place (stored_lease v) (stored_lease w) within there refl refl (omega arith) c.self.invariant)

pub returns-clause-shown : goal.returns-clause-shown
returns-clause-shown c =
    let items = c.self.inside.leases.items in
    let ls = map stored_lease items in
    let place = c.in-Some.place in
    let at : StandsAt c.args.number ls place = subst (λ (xs : List StoredLease). StandsAt c.args.number xs place) (sym c.self.view_is) c.in-Some.ensures.at in
    let within = at.0 in
    let below : place < length items = omega (arith, within, length-map items stored_lease) in
    let v = c.in-Some-get_mut.lease.now in
    let there : (d : StoredLease) → get_or ls place d ≡ stored_lease v = λ d. read_at items place v below c.in-Some-get_mut.ensures.value d in
    let w : HeldLease = record { number = v.number; id = v.id; renewed = v.renewed; tables = c.reserve.new.self } in
    ap (map shown) (map-set stored_lease items place w)
    ∙ (map-set_same shown ls place (stored_lease w) (stored_lease w) (ap (λ (ts : List Packed). (as_lease (stored_lease v), ts)) c.reserve.ensures.keys ∙ ap shown (sym (there (stored_lease w)))) ∙ ap (map shown) c.self.view_is)

pub returns-clause-ok : goal.returns-clause-ok
returns-clause-ok c =
    let items = c.self.inside.leases.items in
    let ls = map stored_lease items in
    let place = c.in-Some.place in
    let at : StandsAt c.args.number ls place = subst (λ (xs : List StoredLease). StandsAt c.args.number xs place) (sym c.self.view_is) c.in-Some.ensures.at in
    let within = at.0 in
    let below : place < length items = omega (arith, within, length-map items stored_lease) in
    let v = c.in-Some-get_mut.lease.now in
    let there : (d : StoredLease) → get_or ls place d ≡ stored_lease v = λ d. read_at items place v below c.in-Some-get_mut.ensures.value d in
    let w : HeldLease = record { number = v.number; id = v.id; renewed = v.renewed; tables = c.reserve.new.self } in
    let kept = kept_by_set (number_of nat_eq c.self.inside.of_worker) c.self.inside.earliest ls place (stored_lease v) (stored_lease w) within there refl refl (omega arith) c.self.invariant in
    let number : v.number ≡ c.args.number = sym (ap (λ (l : StoredLease). l.number) (there (stored_lease v))) ∙ at.1 (stored_lease v) in
    if_ok c.reserve.result (λ (room : child_limit ≤ (stored_lease w).room). subst (HasRoomForChildren c.args.number) (sym (map-set stored_lease items place w))
    (room_one c.args.number (set ls place (stored_lease w)) (stored_lease w) kept.0 (set_there ls place (stored_lease w) within) number room)) c.reserve.ensures.ok
