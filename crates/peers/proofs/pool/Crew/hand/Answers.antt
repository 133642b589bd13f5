use Rattle.std.proofs.Common.{◌∙◌, ap, refl, inl, inr, ℕ, ◌++◌, replicate}
use Rattle.std.specs.Prelude.{IfSome}
use Rattle.std.proofs.lemmas.Result.{err_from_is_err_and}
use Rattle.peers.specs.declared.pool_core.Core.{Core}
use Rattle.peers.specs.Crew.{Crewed}
use Rattle.peers.specs.Frames.{asks_in}
use Rattle.peers.proofs.Cores.{all_replaced, replaced}
use Rattle.peers.proofs.pool.Crew.hand.Goals as goal

pub returns-in_err-out-clause-handed : goal.returns-in_err-out-clause-handed
returns-in_err-out-clause-handed g c =
    let p = err_from_is_err_and c.from_residual.result c.from_residual.ensures.1 in
    let is = ap (λ (crew : Crewed g.row.N.Denot g.row.W.Denot). crew.cores) c.self.view_is in
    rw (p.1, p.2) (
      c.index_mut.result.now,
      c.hand.new.self,
      replaced c.args.place c.index_mut.result.now c.hand.new.self _ _ _ is c.requires c.index_mut.ensures.value refl,
      inl c.in_err-out.ensures.err,
    )

pub returns-in_err-remember-clause-handed : goal.returns-in_err-remember-clause-handed
returns-in_err-remember-clause-handed g c =
    let p = err_from_is_err_and c.from_residual-in_err-remember.result c.from_residual-in_err-remember.ensures.1 in
    let is = ap (λ (crew : Crewed g.row.N.Denot g.row.W.Denot). crew.cores) c.self.view_is in
    rw (p.1, p.2) (
      c.index_mut.result.now,
      c.hand.new.self,
      replaced c.args.place c.index_mut.result.now c.hand.new.self _ _ _ is c.requires c.index_mut.ensures.value c.in_err-remember.ensures.cores,
      inr (refl, c.in_ok-out.out, c.in_ok-out.ensures.ok),
    )

pub returns-in_err-remember-clause-step : goal.returns-in_err-remember-clause-step
returns-in_err-remember-clause-step g c =
    let is = ap (λ (crew : Crewed g.row.N.Denot g.row.W.Denot). crew.cores) c.self.view_is in
    λ other all.
    all_replaced (λ (core : Core g.row.N.Denot g.row.W.Denot). IfSome (g.W.LedgerOut.text core.ledger) (g.N.Node.in_step core.node)) _ _ _ c.args.place
    c.index_mut.result.now c.hand.new.self is c.requires c.index_mut.ensures.value c.in_err-remember.ensures.cores
    (c.in_ok-out.ensures.step (λ e. cc)) all

pub returns-clause-handed : goal.returns-clause-handed
returns-clause-handed g c =
    let is = ap (λ (crew : Crewed g.row.N.Denot g.row.W.Denot). crew.cores) c.self.view_is in
    let whole = c.in_ok-remember.ensures.ok in (
      c.index_mut.result.now,
      c.hand.new.self,
      replaced c.args.place c.index_mut.result.now c.hand.new.self _ _ _ is c.requires c.index_mut.ensures.value c.in_ok-remember.ensures.cores,
      c.in_ok-out.ensures.ok,
      ap (λ (crew : Crewed g.row.N.Denot g.row.W.Denot). crew.asks) whole
          ∙ ap (λ (count : ℕ). c.self.inside.asks.items ++ replicate count c.args.place) c.in_ok-out.ensures.asks
          ∙ ap (λ (crew : Crewed g.row.N.Denot g.row.W.Denot). crew.asks ++ replicate (asks_in c.in_ok-out.out.frames.items) c.args.place) c.self.view_is,
      ap (λ (crew : Crewed g.row.N.Denot g.row.W.Denot). crew.latest) whole ∙ ap (λ (crew : Crewed g.row.N.Denot g.row.W.Denot). crew.latest) c.self.view_is,
    )

pub returns-clause-step : goal.returns-clause-step
returns-clause-step g c =
    let is = ap (λ (crew : Crewed g.row.N.Denot g.row.W.Denot). crew.cores) c.self.view_is in
    λ other all.
    all_replaced (λ (core : Core g.row.N.Denot g.row.W.Denot). IfSome (g.W.LedgerOut.text core.ledger) (g.N.Node.in_step core.node)) _ _ _ c.args.place
    c.index_mut.result.now c.hand.new.self is c.requires c.index_mut.ensures.value c.in_ok-remember.ensures.cores
    (c.in_ok-out.ensures.step (λ e. cc)) all
