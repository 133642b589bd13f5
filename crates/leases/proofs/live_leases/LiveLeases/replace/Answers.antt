use Rattle.std.proofs.Common.{◌≡◌, ◌<◌, ◌++◌, ◌∷◌, [], ℕ, All, List, Option, Some, cond, map, nat_eq, not, sym, ◌∙◌, ap, subst}
use Rattle.std.specs.Map.{lookup}
use Rattle.std.proofs.lemmas.List.{map-append}
use Rattle.std.proofs.lemmas.List.Elements.{All-filter}
use Rattle.leases.specs.declared.held_leases.HeldLease.{HeldLease}
use Rattle.leases.specs.inside.{AreNotBefore, AreOfWorkers, IsOwn, RiseByNumber, StoredLease, is_numbered, stored_lease, without}
use Rattle.leases.proofs.LiveLaws.{rise_last, still_rise, workers_replaced}
use Rattle.leases.proofs.Moments.{fewer_not_before, one_more_not_before}
use Rattle.leases.proofs.live_leases.LiveLeases.replace.Goals as goal

pub invariant_of-self : goal.invariant_of-self
invariant_of-self c =
    subst (λ (items : List HeldLease). RiseByNumber (map stored_lease items) × AreOfWorkers (λ id. lookup (nat_eq id) c.self.inside.of_worker.entries) (map stored_lease items) × AreNotBefore c.self.inside.earliest (map stored_lease items))
    (sym c.reserve.ensures.items) c.self.invariant

pub invariant_of-self-in_err-reserve-2 : goal.invariant_of-self-in_err-reserve-2
invariant_of-self-in_err-reserve-2 c =
    subst (λ (items : List HeldLease). RiseByNumber (map stored_lease items) × AreOfWorkers (λ id. lookup (nat_eq id) c.reserve-2.new.self.entries) (map stored_lease items) × AreNotBefore c.self.inside.earliest (map stored_lease items))
    (sym c.reserve.ensures.items) (
      c.self.invariant.0,
      subst (λ (es : List (ℕ × ℕ)). AreOfWorkers (λ id. lookup (nat_eq id) es) (map stored_lease c.self.inside.leases.items)) (sym c.reserve-2.ensures.entries) c.self.invariant.1,
      c.self.invariant.2,
    )

pub invariant_of-self-2 : goal.invariant_of-self-2
invariant_of-self-2 c =
    let ls = map stored_lease c.self.inside.leases.items in
    let v = stored_lease c.args.lease in
    let own = c.args.own in
    let last = subst (All (λ (l : StoredLease). l.number < v.number)) (sym c.self.view_is) c.requires.last in
    let is_own = subst (IsOwn v.id own) (sym c.self.view_is) c.requires.own in
    let next : ℕ → Option ℕ = λ id. lookup (nat_eq id) c.insert.new.self.entries in
    let is : map stored_lease c.push_back_reserved.new.self.items ≡ without own ls ++ (v ∷ []) =
    ap (map stored_lease) c.push_back_reserved.ensures.items ∙ (map-append stored_lease c.take_out.new.leases.items (c.args.lease ∷ [])
    ∙ ap (λ (xs : List StoredLease). xs ++ (v ∷ [])) (c.take_out.ensures.kept ∙ ap (λ (items : List HeldLease). without own (map stored_lease items)) c.reserve.ensures.items)) in
    subst (λ (xs : List StoredLease). RiseByNumber xs × AreOfWorkers next xs × AreNotBefore c.min-self-inside.result xs) (sym is) (
      rise_last (without own ls) v (All-filter (λ l. not (is_numbered own l.number)) (λ (l : StoredLease). l.number < v.number) ls last) (still_rise own ls c.self.invariant.0),
      workers_replaced (λ id. lookup (nat_eq id) c.self.inside.of_worker.entries) next ls own v c.self.invariant.1 is_own
          (λ q. c.in-Ok.ensures.updates.0 q ∙ ap (λ (es : List (ℕ × ℕ)). cond (nat_eq v.id q) (Some v.number) (lookup (nat_eq q) es)) c.reserve-2.ensures.entries),
      subst (λ (m : ℕ). AreNotBefore m (without own ls ++ (v ∷ []))) (sym c.min-self-inside.ensures)
          (one_more_not_before c.self.inside.earliest (without own ls) v (fewer_not_before own c.self.inside.earliest ls c.self.invariant.2)),
    )
