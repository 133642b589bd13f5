use Rattle.std.proofs.Common.{◌≡◌, ◌<◌, true, length, sym, subst, List, map, Contains, Ok, Err, OnErr, OnOk, IfSome, arith}
use Rattle.std.proofs.lemmas.List.{length-map}
use Rattle.machine_text.specs.Terms.{Packed}
use Rattle.leases.specs.Leases.{is_live}
use Rattle.leases.specs.inside.{StandsAt, StoredLease, stored_lease, as_lease, AreAmongFree, is_numbered}
use Rattle.leases.proofs.Moments.{read_at}
use Rattle.leases.proofs.LiveLaws.{freed_one, freed_none, if_ok, stands_lives}
use Rattle.leases.proofs.live_leases.LiveLeases.free_tables_of.Goals as goal

pub returns-in_default-place-clause-ok : goal.returns-in_default-place-clause-ok
returns-in_default-place-clause-ok c = freed_none c.args.which c.in-Some.number c.args.self.now c.args.free.now.tables c.in-Some.is c.in_default-place.ensures.none

pub returns-clause-ok : goal.returns-clause-ok
returns-clause-ok c =
    let n = c.in-Some.number in
    let items = c.self.inside.leases.items in
    let ls = map stored_lease items in
    let place = c.in-Some-place.place in
    let at : StandsAt n ls place = subst (λ (xs : List StoredLease). StandsAt n xs place) (sym c.self.view_is) c.in-Some-place.ensures.at in
    let within = at.0 in
    let below : place < length items = omega (arith, within, length-map items stored_lease) in
    let v = stored_lease c.in-Some-get.lease.now in
    let there = read_at items place c.in-Some-get.lease.now below c.in-Some-get.ensures.lookup v in
    subst (λ (xs : List StoredLease). OnOk c.free_all.result (AreAmongFree (λ l. is_numbered c.args.which l.number) xs c.free_all.new.free.tables)) c.self.view_is
    (if_ok c.free_all.result (λ (all : (q : Packed) → Contains c.as_slice.result.now q → Contains c.free_all.new.free.tables q). freed_one c.args.which n ls place v c.free_all.new.free.tables c.self.invariant.0 c.in-Some.is at (sym there)
    (λ q h. all q (subst (λ (ts : List Packed). Contains ts q) (sym c.as_slice.ensures.keys) h))) c.free_all.ensures.ok)

pub returns-clause-err : goal.returns-clause-err
returns-clause-err c =
    elim c.free_all.result as (λ r. OnErr r (IfSome c.args.which (λ n. is_live (map as_lease c.args.self.now) n ≡ true))) [
      | Ok x ↦ tt
      | Err e ↦ rw c.in-Some.is (stands_lives c.in-Some.number c.args.self.now c.in-Some-place.place c.in-Some-place.ensures.at)
    ]
