use Rattle.std.proofs.Common.{◌∙◌, sym, ap, subst}
use Rattle.ledger.specs.Terms.{IsTally}
use Rattle.totals.specs.Totals.{joined_with, Collected}
use Rattle.totals.proofs.whole.Whole.tally.Goals as goal

pub returns : goal.returns
returns c = λ parts whole.
    let w = c.args.self.now in
    subst (IsTally w.trunk.root (joined_with w.trunk.records parts)) (sym (c.tally.ensures ∙ ap (λ (v : Collected). v.totals.tally) c.self.view_is)) whole.totals_are.counted
