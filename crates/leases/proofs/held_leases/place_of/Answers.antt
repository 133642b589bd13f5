use Rattle.std.proofs.Common.{rules, ℕ, Result, IfErr, IfOk, false, length, map, subst, ◌≡◌}
use Rattle.std.specs.List.Sorted.{IsSearchInRange}
use Rattle.std.proofs.lemmas.List.Sorted.{answers_always}
use Rattle.leases.specs.Leases.{is_live}
use Rattle.leases.specs.inside.{StandsAt, as_lease, stored_lease}
use Rattle.leases.proofs.Moments.{searched}
use Rattle.leases.proofs.held_leases.place_of.Goals as goal

-- the closure gives the number of a lease
pub returns-in-Ok-clause-at : goal.returns-in-Ok-clause-at
returns-in-Ok-clause-at c =
    let facts = c.binary_search_by_key.ensures in
    let items = c.args.leases.now.items in
    let within : IsSearchInRange c.binary_search_by_key.result (length items) = subst (λ (n : ℕ). IsSearchInRange c.binary_search_by_key.result n) c.args.leases.now.ok.0 facts.bound in
    let found = searched items c.requires c.args.number c.binary_search_by_key.result within (facts.position (λ lease. lease.number) (answers_always _ _ _ (λ f a r g called. search rules))) in
    subst (λ (r : Result ℕ ℕ). IfOk r (StandsAt c.args.number (map stored_lease items))) c.in-Ok.is found.0

pub returns-in-Err-clause-none : goal.returns-in-Err-clause-none
returns-in-Err-clause-none c =
    let facts = c.binary_search_by_key.ensures in
    let items = c.args.leases.now.items in
    let within : IsSearchInRange c.binary_search_by_key.result (length items) = subst (λ (n : ℕ). IsSearchInRange c.binary_search_by_key.result n) c.args.leases.now.ok.0 facts.bound in
    let found = searched items c.requires c.args.number c.binary_search_by_key.result within (facts.position (λ lease. lease.number) (answers_always _ _ _ (λ f a r g called. search rules))) in
    subst (λ (r : Result ℕ ℕ). IfErr r (λ i. is_live (map as_lease (map stored_lease items)) c.args.number ≡ false)) c.in-Err.is found.1
