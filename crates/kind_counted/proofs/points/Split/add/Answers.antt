use Rattle.std.proofs.Common.{List, [], ◌∷◌, ◌++◌, Some, sym, subst}
use Rattle.law_machines.specs.Terms.{Point}
use Rattle.kind_counted.specs.Numbers.{point_of}
use Rattle.kind_counted.specs.declared.numbers.Counts.{Counts}
use Rattle.kind_counted.specs.inside.Judging.{listed, IsSplit}
use Rattle.kind_counted.proofs.Echelon.{split_parted}
use Rattle.kind_counted.proofs.points.Split.add.Goals as goal

pub returns-in_ok-push-in-Some-clause-added : goal.returns-in_ok-push-in-Some-clause-added
returns-in_ok-push-in-Some-clause-added c = λ rows split.
    let row = c.args.row.now in
    let all : List Point = rows ++ point_of row.numbers ∷ [] in
    let pair = c.in_ok-carrier-in-Some in
    subst (λ (l : List Counts). IsSplit all c.args.place (Some pair.field-0.carrier) (listed l)) (sym c.in_ok-push-in-Some.ensures.items)
    (split_parted rows c.args.place c.args.self.now.rest.items c.in-Some.carrier row pair.field-0.carrier pair.field-0.other pair.ensures.parted
    (subst (λ o. IsSplit rows c.args.place o (listed c.args.self.now.rest.items)) c.in-Some.is split))
