use Rattle.std.proofs.Common.{◌∙◌, Ok, Err, ap, sym, subst, refl, Bool}
use Rattle.std.proofs.lemmas.Result.{err_from_is_err_and}
use Rattle.peers.specs.Crew.{Crewed, hall, TicksWhen}
use Rattle.peers.proofs.Cores.{stands}
use Rattle.peers.proofs.pool.Crew.tick.Goals as goal

pub returns-in_err-hand-clause-ticks : goal.returns-in_err-hand-clause-ticks
returns-in_err-hand-clause-ticks g c =
    let p = err_from_is_err_and c.from_residual.result c.from_residual.ensures.1 in
    let is = ap (λ (crew : Crewed g.row.N.Denot g.row.W.Denot). crew.cores) c.self.view_is in
    rw (p.1, p.2) (
      c.index.result.now,
      stands c.args.place c.index.result.now _ _ is c.requires c.index.ensures,
      subst (λ (b : Bool). TicksWhen g.N.Node.answers g.N.Node.is_stopped g.W.LedgerOut.text b c.args.place (Err c.in_err-hand.field-0.0)
          (hall c.args.self.now (g.L.Link.sent c.args.link.now)) (hall c.hand.new.self (g.L.Link.sent c.hand.new.link)))
          (sym c.if-is_ready.true ∙ c.is_ready.ensures) (Err c.in_err-hand.field-0.0, c.in_err-hand.ensures.handed, refl),
    )

pub returns-in_ok-hand-clause-ticks : goal.returns-in_ok-hand-clause-ticks
returns-in_ok-hand-clause-ticks g c =
    let is = ap (λ (crew : Crewed g.row.N.Denot g.row.W.Denot). crew.cores) c.self.view_is in (
      c.index.result.now,
      stands c.args.place c.index.result.now _ _ is c.requires c.index.ensures,
      subst (λ (b : Bool). TicksWhen g.N.Node.answers g.N.Node.is_stopped g.W.LedgerOut.text b c.args.place (Ok tt)
          (hall c.args.self.now (g.L.Link.sent c.args.link.now)) (hall c.hand.new.self (g.L.Link.sent c.hand.new.link)))
          (sym c.if-is_ready.true ∙ c.is_ready.ensures) (Ok c.in_ok-hand.field-0, c.in_ok-hand.ensures.handed, refl),
    )

pub returns-else-is_ready-clause-ticks : goal.returns-else-is_ready-clause-ticks
returns-else-is_ready-clause-ticks g c =
    let is = ap (λ (crew : Crewed g.row.N.Denot g.row.W.Denot). crew.cores) c.self.view_is in (
      c.index.result.now,
      stands c.args.place c.index.result.now _ _ is c.requires c.index.ensures,
      subst (λ (b : Bool). TicksWhen g.N.Node.answers g.N.Node.is_stopped g.W.LedgerOut.text b c.args.place (Ok tt)
          (hall c.args.self.now (g.L.Link.sent c.args.link.now)) (hall c.args.self.now (g.L.Link.sent c.args.link.now)))
          (sym c.if-is_ready.false ∙ c.is_ready.ensures) (refl, refl),
    )
