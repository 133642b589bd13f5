use Rattle.std.proofs.Common.{Option, ℕ, IsSome, sym, ◌∙◌, ap, map, arith}
use Rattle.std.proofs.lemmas.List.{length-map}
use Rattle.indexmap.proofs.SetLemmas.{map-remove}
use Rattle.leases.specs.inside.{stored_lease, without}
use Rattle.leases.proofs.Moments.{where_some}
use Rattle.leases.proofs.LiveLaws.{missing, removed_is, without_none}
use Rattle.leases.proofs.held_leases.take_out.Goals as goal

pub returns-in_default-clause-kept : goal.returns-in_default-clause-kept
returns-in_default-clause-kept c =
    let ls = map stored_lease c.args.leases.now.items in
    sym (without_none ls) ∙ ap (λ (which : Option ℕ). without which ls) (sym c.in_default.is)

pub returns-in-Some-place_of-clause-kept : goal.returns-in-Some-place_of-clause-kept
returns-in-Some-place_of-clause-kept c =
    let items = c.args.leases.now.items in
    let ls = map stored_lease items in
    let at = c.in-Some-place_of.ensures.at in
    let below = at.0 in
    let long = c.args.leases.now.ok.0 in
    let some : IsSome c.remove.result = c.remove.ensures.variant.1 (omega (arith, below, long, length-map items stored_lease)) in
    ap (map stored_lease) (where_some c.remove.result some c.remove.ensures.items)
    ∙ map-remove stored_lease items c.in-Some-place_of.place
    ∙ removed_is c.in-Some.number ls c.in-Some-place_of.place c.requires at
    ∙ ap (λ (which : Option ℕ). without which ls) (sym c.in-Some.is)

pub returns-in_default-place_of-clause-kept : goal.returns-in_default-place_of-clause-kept
returns-in_default-place_of-clause-kept c =
    let ls = map stored_lease c.args.leases.now.items in
    sym (missing c.in-Some.number ls c.in_default-place_of.ensures.none) ∙ ap (λ (which : Option ℕ). without which ls) (sym c.in-Some.is)
