use Rattle.std.proofs.Common.{◌≡◌, sym, ap, subst}
use Rattle.totals.specs.Totals.{AreTotals, totals_of, joined_with, Collected}
use Rattle.totals.proofs.Wholes.{whole_is_board}
use Rattle.totals.proofs.whole.Whole.champions_and_holdouts.Goals as goal

pub returns-clause-champions : goal.returns-clause-champions
returns-clause-champions c = λ parts whole.
    let w = c.args.self.now in
    let rs = joined_with w.trunk.records parts in
    let same : totals_of c.self.inside.sums ≡ w.totals = ap (λ (v : Collected). v.totals) c.self.view_is in
    c.in_ok-found.ensures.champions w.trunk.root rs (whole_is_board w parts whole) (subst (AreTotals w.trunk.root rs) (sym same) whole.totals_are)

pub returns-clause-ones_champions : goal.returns-clause-ones_champions
returns-clause-ones_champions c = λ parts whole.
    let w = c.args.self.now in
    let rs = joined_with w.trunk.records parts in
    let same : totals_of c.self.inside.sums ≡ w.totals = ap (λ (v : Collected). v.totals) c.self.view_is in
    c.in_ok-found.ensures.ones_champions w.trunk.root rs (whole_is_board w parts whole) (subst (AreTotals w.trunk.root rs) (sym same) whole.totals_are)

pub returns-clause-holdouts : goal.returns-clause-holdouts
returns-clause-holdouts c = λ parts whole.
    let w = c.args.self.now in
    let rs = joined_with w.trunk.records parts in
    let same : totals_of c.self.inside.sums ≡ w.totals = ap (λ (v : Collected). v.totals) c.self.view_is in
    c.in_ok-found.ensures.holdouts w.trunk.root rs (whole_is_board w parts whole) (subst (AreTotals w.trunk.root rs) (sym same) whole.totals_are)
