use Rattle.std.proofs.Common.{◌≡◌, sym, ap, subst}
use Rattle.totals.specs.Totals.{AreTotals, totals_of, Walked}
use Rattle.totals.specs.inside.{IsOfRecords}
use Rattle.totals.proofs.walk.Walk.status.Goals as goal

pub returns-clause-stands : goal.returns-clause-stands
returns-clause-stands c = λ rs walked.
    let w = c.args.self.now in
    let same : totals_of c.self.inside.sums ≡ w.totals = ap (λ (v : Walked). v.totals) c.self.view_is in
    c.status.ensures.stands w.root rs (subst (AreTotals w.root rs) (sym same) walked.totals_are)

pub returns-clause-best : goal.returns-clause-best
returns-clause-best c =
    let w = c.args.self.now in
    let some : IsOfRecords w = subst IsOfRecords c.self.view_is c.self.invariant in
    let same : totals_of c.self.inside.sums ≡ w.totals = ap (λ (v : Walked). v.totals) c.self.view_is in
    λ best ones. c.status.ensures.best w.root some.0 best ones some.1.is_board (subst (AreTotals w.root some.0) (sym same) some.1.totals_are)

pub returns-clause-ones : goal.returns-clause-ones
returns-clause-ones c =
    let w = c.args.self.now in
    let some : IsOfRecords w = subst IsOfRecords c.self.view_is c.self.invariant in
    let same : totals_of c.self.inside.sums ≡ w.totals = ap (λ (v : Walked). v.totals) c.self.view_is in
    λ best ones. c.status.ensures.ones w.root some.0 best ones some.1.is_board (subst (AreTotals w.root some.0) (sym same) some.1.totals_are)

pub returns-clause-rado : goal.returns-clause-rado
returns-clause-rado c =
    let w = c.args.self.now in
    let some : IsOfRecords w = subst IsOfRecords c.self.view_is c.self.invariant in
    let same : totals_of c.self.inside.sums ≡ w.totals = ap (λ (v : Walked). v.totals) c.self.view_is in
    λ n s ones. c.status.ensures.rado w.root some.0 n s ones some.1.is_board (subst (AreTotals w.root some.0) (sym same) some.1.totals_are)

pub returns-clause-sigma : goal.returns-clause-sigma
returns-clause-sigma c =
    let w = c.args.self.now in
    let some : IsOfRecords w = subst IsOfRecords c.self.view_is c.self.invariant in
    let same : totals_of c.self.inside.sums ≡ w.totals = ap (λ (v : Walked). v.totals) c.self.view_is in
    λ n s best. c.status.ensures.sigma w.root some.0 n s best some.1.is_board (subst (AreTotals w.root some.0) (sym same) some.1.totals_are)
