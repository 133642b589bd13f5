use Rattle.std.proofs.Common.{◌≡◌, sym, ap, subst}
use Rattle.totals.specs.Totals.{AreTotals, totals_of, joined_with, Collected}
use Rattle.totals.specs.inside.{IsOfParts}
use Rattle.totals.proofs.Wholes.{whole_is_board}
use Rattle.totals.proofs.whole.Whole.status.Goals as goal

pub returns-clause-stands : goal.returns-clause-stands
returns-clause-stands c = λ parts whole.
    let w = c.args.self.now in
    let rs = joined_with w.trunk.records parts in
    let same : totals_of c.self.inside.sums ≡ w.totals = ap (λ (v : Collected). v.totals) c.self.view_is in
    c.status.ensures.stands w.trunk.root rs (subst (AreTotals w.trunk.root rs) (sym same) whole.totals_are)

pub returns-clause-best : goal.returns-clause-best
returns-clause-best c =
    let w = c.args.self.now in
    let some : IsOfParts w = subst IsOfParts c.self.view_is c.self.invariant in
    let rs = joined_with w.trunk.records some.0 in
    let same : totals_of c.self.inside.sums ≡ w.totals = ap (λ (v : Collected). v.totals) c.self.view_is in
    λ best ones. c.status.ensures.best w.trunk.root rs best ones (whole_is_board w some.0 some.1) (subst (AreTotals w.trunk.root rs) (sym same) some.1.totals_are)

pub returns-clause-ones : goal.returns-clause-ones
returns-clause-ones c =
    let w = c.args.self.now in
    let some : IsOfParts w = subst IsOfParts c.self.view_is c.self.invariant in
    let rs = joined_with w.trunk.records some.0 in
    let same : totals_of c.self.inside.sums ≡ w.totals = ap (λ (v : Collected). v.totals) c.self.view_is in
    λ best ones. c.status.ensures.ones w.trunk.root rs best ones (whole_is_board w some.0 some.1) (subst (AreTotals w.trunk.root rs) (sym same) some.1.totals_are)

pub returns-clause-rado : goal.returns-clause-rado
returns-clause-rado c =
    let w = c.args.self.now in
    let some : IsOfParts w = subst IsOfParts c.self.view_is c.self.invariant in
    let rs = joined_with w.trunk.records some.0 in
    let same : totals_of c.self.inside.sums ≡ w.totals = ap (λ (v : Collected). v.totals) c.self.view_is in
    λ n s ones. c.status.ensures.rado w.trunk.root rs n s ones (whole_is_board w some.0 some.1) (subst (AreTotals w.trunk.root rs) (sym same) some.1.totals_are)

pub returns-clause-sigma : goal.returns-clause-sigma
returns-clause-sigma c =
    let w = c.args.self.now in
    let some : IsOfParts w = subst IsOfParts c.self.view_is c.self.invariant in
    let rs = joined_with w.trunk.records some.0 in
    let same : totals_of c.self.inside.sums ≡ w.totals = ap (λ (v : Collected). v.totals) c.self.view_is in
    λ n s best. c.status.ensures.sigma w.trunk.root rs n s best (whole_is_board w some.0 some.1) (subst (AreTotals w.trunk.root rs) (sym same) some.1.totals_are)
