use Rattle.std.proofs.Common.{◌≡◌, ℕ, sym, not, refl, ◌∙◌, ap, subst, true, List, map, filter, Contains}
use Rattle.std.proofs.lemmas.Result.{err_from_is_err_and}
use Rattle.leases.specs.Leases.{Leased, AreLeases, SomeEnds, ended, is_live}
use Rattle.leases.specs.inside.{StoredLease, as_lease, as_leases, has_ended, are_numbered, without_each, AreDue, AreAmongFree, AreStored, AreNotAhead}
use Rattle.leases.proofs.Granting.{at_moment, seen_ended, ended_holds}
use Rattle.leases.proofs.Moments.{ended_each, due_freed, number_ends, fewer_not_ahead, later_not_ahead}
use Rattle.leases.proofs.leased_board.LeasedBoard.tick.Goals as goal

pub invariant_of-self : goal.invariant_of-self
invariant_of-self c =
    let b = c.self.inside.board in
    let came = c.self.inside.came_under.entries in
    let moment = c.self.inside.moment in
    subst (λ (ls : List StoredLease). (AreLeases b (as_leases ls came moment c.self.inside.given) × AreStored b ls came c.self.inside.free.tables) × AreNotAhead moment ls) (sym c.due.ensures.same) c.self.invariant

pub invariant_of-self-in_err-free_each : goal.invariant_of-self-in_err-free_each
invariant_of-self-in_err-free_each c =
    let b = c.self.inside.board in
    let came = c.self.inside.came_under.entries in
    let moment = c.self.inside.moment in
    let was = c.self.invariant.0.1 in
    subst (λ (ls : List StoredLease). (AreLeases b (as_leases ls came moment c.self.inside.given) × AreStored b ls came c.free_each.new.free.tables) × AreNotAhead moment ls) (sym c.due.ensures.same)
    ((c.self.invariant.0.0, record { listed = was.listed; freed = λ t is_open none. c.free_each.ensures.more t (was.freed t is_open none) }), c.self.invariant.1)

pub invariant_of-self-2 : goal.invariant_of-self-2
invariant_of-self-2 c =
    let b = c.self.inside.board in
    let ls = c.self.inside.live in
    let kept = c.end_each.new.self in
    let came = c.self.inside.came_under.entries in
    let more = c.free_each.new.free.tables in
    let now = c.max-moment.result in
    let given = c.self.inside.given in
    let numbers = c.in_ok-numbers.numbers.items in
    let due : AreDue now (map as_lease ls) numbers = c.in_ok-numbers.ensures.ok in
    let is : kept ≡ filter (λ l. not (has_ended now (as_lease l))) ls = c.end_each.ensures ∙ (ap (λ xs. without_each c.deref-2.result.now xs) c.due.ensures.same ∙ (ap (λ ns. without_each ns ls) c.deref-2.ensures.value ∙ ended_each now numbers ls due)) in
    let freed = due_freed now numbers ls more due (subst (λ (xs : List StoredLease). AreAmongFree (λ l. are_numbered numbers l.number) xs more) c.due.ensures.same
    (subst (λ (ns : List ℕ). AreAmongFree (λ l. are_numbered ns l.number) c.due.new.self more) c.deref.ensures.value c.in_ok-free_each.ensures.ok)) in (
      ended_holds b (has_ended now) ls ls kept came came c.self.inside.free.tables more now given refl refl is c.in_ok-free_each.ensures.more freed
          (at_moment b ls came c.self.inside.moment now given c.self.invariant.0.0, c.self.invariant.0.1),
      fewer_not_ahead (λ l. not (has_ended now (as_lease l))) now ls kept is (later_not_ahead c.self.inside.moment c.args.t now ls c.max-moment.ensures c.self.invariant.1),
    )

pub returns-clause-ok : goal.returns-clause-ok
returns-clause-ok c =
    let ls = c.self.inside.live in
    let came = c.self.inside.came_under.entries in
    let now = c.max-moment.result in
    let given = c.self.inside.given in
    let numbers = c.in_ok-numbers.numbers.items in
    let due : AreDue now (map as_lease ls) numbers = c.in_ok-numbers.ensures.ok in
    let is : c.end_each.new.self ≡ filter (λ l. not (has_ended now (as_lease l))) ls = c.end_each.ensures ∙ (ap (λ xs. without_each c.deref-2.result.now xs) c.due.ensures.same ∙ (ap (λ ns. without_each ns ls) c.deref-2.ensures.value ∙ ended_each now numbers ls due)) in
    rw (← ap (λ (s : Leased). s.leases) c.self.view_is)
    (seen_ended (has_ended now) ls c.end_each.new.self came now given is ∙ ap (λ m. ended (has_ended m) (as_leases ls came m given)) c.max-moment.ensures)

pub returns-in_err-free_each-clause-err : goal.returns-in_err-free_each-clause-err
returns-in_err-free_each-clause-err c =
    let p = err_from_is_err_and c.from_residual-in_err-free_each.result c.from_residual-in_err-free_each.ensures.1 in
    let ls = c.self.inside.live in
    let numbers = c.in_ok-numbers.numbers.items in
    let late = c.in_err-free_each.ensures.err in
    let some = number_ends c.max-moment.result ls numbers late.0 c.in_ok-numbers.ensures.ok (subst (λ (ns : List ℕ). Contains ns late.0) c.deref.ensures.value late.1)
    (subst (λ (xs : List StoredLease). is_live (map as_lease xs) late.0 ≡ true) c.due.ensures.same late.2) in
    rw p.1 (rw (← ap (λ (s : Leased). s.leases) c.self.view_is) (
      subst (λ (m : ℕ). SomeEnds m (map as_lease ls)) c.max-moment.ensures some,
      ap (λ (xs : List StoredLease). as_leases xs c.self.inside.came_under.entries c.self.inside.moment c.self.inside.given) c.due.ensures.same,
    ))
