use Rattle.std.proofs.Common.{◌∙◌, sym, ap, subst}
use Rattle.ledger.specs.Terms.{IsTally}
use Rattle.totals.specs.Totals.{Walked}
use Rattle.totals.proofs.walk.Walk.tally.Goals as goal

pub returns : goal.returns
returns c = λ rs walked.
    subst (IsTally c.args.self.now.root rs) (sym (c.tally.ensures ∙ ap (λ (w : Walked). w.totals.tally) c.self.view_is)) walked.totals_are.counted
