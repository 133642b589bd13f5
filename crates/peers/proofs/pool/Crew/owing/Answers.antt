use Rattle.std.proofs.Common.{◌≡◌, ◌∙◌, ap, sym, subst, refl, Bool, cond, ℕ}
use Rattle.std.specs.Prelude.{Option, position, unwrap_or}
use Rattle.peers.specs.Crew.{Crewed, is_word_due}
use Rattle.peers.proofs.Cores.{stands}
use Rattle.peers.proofs.pool.Crew.owing.Goals as goal

pub returns-then-is_word_due-clause-owing : goal.returns-then-is_word_due-clause-owing
returns-then-is_word_due-clause-owing g c =
    let is = ap (λ (crew : Crewed g.row.N.Denot g.row.W.Denot). crew.cores) c.self.view_is in (
      c.index.result.now,
      stands c.args.place c.index.result.now _ _ is c.requires c.index.ensures,
      subst (λ (b : Bool). c.args.place ≡ cond b c.args.place (unwrap_or (position is_word_due c.args.self.now.cores) c.args.place))
          (sym c.if-is_word_due.true ∙ c.is_word_due.ensures) refl,
    )

pub returns-else-is_word_due-clause-owing : goal.returns-else-is_word_due-clause-owing
returns-else-is_word_due-clause-owing g c =
    let is = ap (λ (crew : Crewed g.row.N.Denot g.row.W.Denot). crew.cores) c.self.view_is in
    let first = unwrap_or (position is_word_due c.args.self.now.cores) c.args.place in (
      c.index.result.now,
      stands c.args.place c.index.result.now _ _ is c.requires c.index.ensures,
      c.unwrap_or.ensures ∙ ap (λ (o : Option ℕ). unwrap_or o c.args.place) c.first_word_due.ensures.first
          ∙ subst (λ (b : Bool). first ≡ cond b c.args.place first) (sym c.if-is_word_due.false ∙ c.is_word_due.ensures) refl,
    )
