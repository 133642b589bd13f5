use Rattle.std.proofs.Common.{◌≡◌, sym, ap, subst}
use Rattle.totals.specs.Totals.{AreTotals, totals_of, Walked}
use Rattle.totals.proofs.walk.Walk.champions_and_holdouts.Goals as goal

pub returns-clause-champions : goal.returns-clause-champions
returns-clause-champions c = λ rs walked.
    let w = c.args.self.now in
    let same : totals_of c.self.inside.sums ≡ w.totals = ap (λ (v : Walked). v.totals) c.self.view_is in
    c.in_ok-found.ensures.champions w.root rs walked.is_board (subst (AreTotals w.root rs) (sym same) walked.totals_are)

pub returns-clause-ones_champions : goal.returns-clause-ones_champions
returns-clause-ones_champions c = λ rs walked.
    let w = c.args.self.now in
    let same : totals_of c.self.inside.sums ≡ w.totals = ap (λ (v : Walked). v.totals) c.self.view_is in
    c.in_ok-found.ensures.ones_champions w.root rs walked.is_board (subst (AreTotals w.root rs) (sym same) walked.totals_are)

pub returns-clause-holdouts : goal.returns-clause-holdouts
returns-clause-holdouts c = λ rs walked.
    let w = c.args.self.now in
    let same : totals_of c.self.inside.sums ≡ w.totals = ap (λ (v : Walked). v.totals) c.self.view_is in
    c.in_ok-found.ensures.holdouts w.root rs walked.is_board (subst (AreTotals w.root rs) (sym same) walked.totals_are)
