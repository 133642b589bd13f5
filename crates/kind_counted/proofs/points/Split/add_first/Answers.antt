use Rattle.std.proofs.Common.{List, [], ◌∷◌, ◌++◌, None, sym, subst}
use Rattle.law_machines.specs.Terms.{Point}
use Rattle.kind_counted.specs.Numbers.{point_of}
use Rattle.kind_counted.specs.declared.numbers.Counts.{Counts}
use Rattle.kind_counted.specs.inside.Judging.{listed, IsSplit}
use Rattle.kind_counted.proofs.SettlingLaws.{some_bits, none_bits}
use Rattle.kind_counted.proofs.Echelon.{split_first, split_zero}
use Rattle.kind_counted.proofs.points.Split.add_first.Goals as goal

pub returns-then-row-place-ne0-clause-added : goal.returns-then-row-place-ne0-clause-added
returns-then-row-place-ne0-clause-added c = λ rows split.
    split_first rows c.args.place (listed c.args.self.now.rest.items) c.args.row.now (some_bits (point_of c.args.row.now.numbers c.args.place) c.if-row-place-ne0.true) split

pub returns-clause-added : goal.returns-clause-added
returns-clause-added c = λ rows split.
    let row = c.args.row.now in
    let all : List Point = rows ++ point_of row.numbers ∷ [] in
    subst (λ o. IsSplit all c.args.place o (listed c.push.new.self.items)) (sym c.requires.none)
    (subst (λ (l : List Counts). IsSplit all c.args.place None (listed l)) (sym c.in_ok-push.ensures.items)
    (split_zero rows c.args.place c.args.self.now.rest.items row (none_bits row.numbers c.args.place row.small c.if-row-place-ne0.false) split))
