use Rattle.std.proofs.Common.{◌≡◌, ℕ, Option, sym, ◌∙◌, ap, subst, length, ◌-◌}
use Rattle.std.proofs.lemmas.List.{length-map}
use Rattle.leases.specs.inside.{RiseByNumber, stored_lease, without}
use Rattle.leases.proofs.LiveLaws.{without_none, length_found, missing, one_less}
use Rattle.leases.proofs.live_leases.LiveLeases.len_without.Goals as goal

pub returns-in_default : goal.returns-in_default
returns-in_default c =
    let items = c.self.inside.leases.items in
    let now = c.args.self.now in
    let total : c.len-all.result ≡ length now = c.len-all.ensures ∙ (c.self.inside.leases.ok.0 ∙ (sym (length-map items stored_lease) ∙ ap length c.self.view_is)) in
    total ∙ (ap length (sym (without_none now)) ∙ ap (λ (which : Option ℕ). length (without which now)) (sym c.in_default.is))

pub returns-in-Some-place : goal.returns-in-Some-place
returns-in-Some-place c =
    let items = c.self.inside.leases.items in
    let now = c.args.self.now in
    let total : c.len-all.result ≡ length now = c.len-all.ensures ∙ (c.self.inside.leases.ok.0 ∙ (sym (length-map items stored_lease) ∙ ap length c.self.view_is)) in
    let found = length_found c.in-Some.number now c.in-Some-place.field-0 (subst RiseByNumber c.self.view_is c.self.invariant.0) c.in-Some-place.ensures.at in
    ap (λ n. n - 1) total ∙ (one_less found ∙ ap (λ (which : Option ℕ). length (without which now)) (sym c.in-Some.is))

pub returns-in-None : goal.returns-in-None
returns-in-None c =
    let items = c.self.inside.leases.items in
    let now = c.args.self.now in
    let total : c.len-all.result ≡ length now = c.len-all.ensures ∙ (c.self.inside.leases.ok.0 ∙ (sym (length-map items stored_lease) ∙ ap length c.self.view_is)) in
    total ∙ (ap length (sym (missing c.in-Some.number now c.in-None.ensures.none)) ∙ ap (λ (which : Option ℕ). length (without which now)) (sym c.in-Some.is))
