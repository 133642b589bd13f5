use Rattle.std.proofs.Common.{arith, ◌<◌, ◌≤◌, ◌∙◌, ap, sym, subst, refl, length, set, List, length-set}
use Rattle.std.specs.Prelude.{IfSome}
use Rattle.peers.specs.declared.pool_core.Core.{Core}
use Rattle.peers.specs.Crew.{Crewed, with_course}
use Rattle.peers.proofs.Cores.{all_replaced, oldest_within, stands, within_more}
use Rattle.peers.proofs.pool.Crew.take_oldest.Goals as goal

pub invariant_of-self-2 : goal.invariant_of-self-2
invariant_of-self-2 g c =
    let oldest = oldest_within _ _ c.in_ok-place.place c.self.inside.cores.items c.self.invariant.0 c.in_ok-place.ensures.items in
    let same = length-set c.self.inside.cores.items c.in_ok-place.place c.tell.new.self in
    let more : length c.self.inside.cores.items ≤ length (set c.self.inside.cores.items c.in_ok-place.place c.tell.new.self) = omega arith in
    within_more _ _ _ _ more (oldest.1, c.self.invariant.1)

pub returns-clause-some : goal.returns-clause-some
returns-clause-some g c =
    let is = ap (λ (crew : Crewed g.row.N.Denot g.row.W.Denot). crew.cores) c.self.view_is in
    let oldest = oldest_within _ _ c.in_ok-place.place c.self.inside.cores.items c.self.invariant.0 c.in_ok-place.ensures.items in
    let within = subst (λ (cores : List (Core g.row.N.Denot g.row.W.Denot)). c.in_ok-place.place < length cores) is oldest.0 in (
      c.index_mut.result.now,
      c.pop_front.new.self.items,
      sym (ap (λ (crew : Crewed g.row.N.Denot g.row.W.Denot). crew.asks) c.self.view_is) ∙ c.in_ok-place.ensures.items,
      stands c.in_ok-place.place c.index_mut.result.now _ _ is within c.index_mut.ensures.value,
      ap (λ (core : Core g.row.N.Denot g.row.W.Denot). record {
        cores = set c.self.inside.cores.items c.in_ok-place.place core;
        asks = c.pop_front.new.self.items;
        latest = c.self.inside.latest;
      }) c.tell.ensures
          ∙ ap (λ (crew : Crewed g.row.N.Denot g.row.W.Denot). with_course c.args.course c.in_ok-place.place c.pop_front.new.self.items c.index_mut.result.now crew)
          c.self.view_is,
    )

pub returns-clause-step : goal.returns-clause-step
returns-clause-step g c =
    let is = ap (λ (crew : Crewed g.row.N.Denot g.row.W.Denot). crew.cores) c.self.view_is in
    let oldest = oldest_within _ _ c.in_ok-place.place c.self.inside.cores.items c.self.invariant.0 c.in_ok-place.ensures.items in
    let within = subst (λ (cores : List (Core g.row.N.Denot g.row.W.Denot)). c.in_ok-place.place < length cores) is oldest.0 in
    λ all.
    all_replaced (λ (core : Core g.row.N.Denot g.row.W.Denot). IfSome (g.W.LedgerOut.text core.ledger) (g.N.Node.in_step core.node)) _ _ _ c.in_ok-place.place
    c.index_mut.result.now c.tell.new.self is within c.index_mut.ensures.value refl
    (subst (λ (core : Core g.row.N.Denot g.row.W.Denot). IfSome (g.W.LedgerOut.text c.index_mut.result.now.ledger) (g.N.Node.in_step c.index_mut.result.now.node) → IfSome (g.W.LedgerOut.text core.ledger) (g.N.Node.in_step core.node))
    (sym c.tell.ensures) (λ h. h)) all
