use Rattle.std.proofs.Common.{subst, List}
use Rattle.std.specs.List.Sorted.{IsPermutation}
use Rattle.std.specs.Vec.Iter.{into_iter_items}
use Rattle.machine_text.specs.Terms.{Packed}
use Rattle.totals.specs.Totals.{totals_of}
use Rattle.totals.proofs.ToldRecords.{sorted_champions, sorted_ones_champions, sorted_holdouts}
use Rattle.totals.proofs.sums.Sums.champions_and_holdouts.Goals as goal

pub returns-clause-champions : goal.returns-clause-champions
returns-clause-champions c = λ root rs board are.
    let ys = into_iter_items c.in_ok-champions.champions in
    sorted_champions root rs (totals_of c.args.self.now) board are ys c.in_ok-champions.ensures.sorted
    (subst (λ (xs : List Packed). IsPermutation xs ys) c.deref.ensures.value c.in_ok-champions.ensures.same)

pub returns-clause-ones_champions : goal.returns-clause-ones_champions
returns-clause-ones_champions c = λ root rs board are.
    let ys = into_iter_items c.in_ok-ones_champions.ones_champions in
    sorted_ones_champions root rs (totals_of c.args.self.now) board are ys c.in_ok-ones_champions.ensures.sorted
    (subst (λ (xs : List Packed). IsPermutation xs ys) c.deref-2.ensures.value c.in_ok-ones_champions.ensures.same)

pub returns-clause-holdouts : goal.returns-clause-holdouts
returns-clause-holdouts c = λ root rs board are.
    let ys = into_iter_items c.in_ok-holdouts.holdouts in
    sorted_holdouts root rs (totals_of c.args.self.now) board are ys c.in_ok-holdouts.ensures.sorted
    (subst (λ (xs : List Packed). IsPermutation xs ys) c.deref-3.ensures.value c.in_ok-holdouts.ensures.same)
