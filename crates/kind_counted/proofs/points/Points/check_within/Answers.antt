use Rattle.std.proofs.Common.{◌-ℤ◌, List, sym, subst}
use Rattle.std.proofs.lemmas.Result.{err_from_is_err_and}
use Rattle.kind_counted.specs.declared.rows.Row.{Row}
use Rattle.law_machines.specs.Terms.{Coset, IsSum}
use Rattle.kind_counted.specs.Items.{coset_of}
use Rattle.kind_counted.specs.Numbers.{point_of}
use Rattle.kind_counted.specs.Pivots.{points}
use Rattle.kind_counted.specs.inside.Judging.{coset_by, AreSumsOf, LiesWithin}
use Rattle.kind_counted.proofs.Sums.{sum_same}
use Rattle.kind_counted.proofs.JudgingLaws.{ok_then, within_from, within_base, within_rows}
use Rattle.kind_counted.proofs.points.Points.check_within.Goals as goal

pub returns-in_err-sum_to-clause-fails : goal.returns-in_err-sum_to-clause-fails
returns-in_err-sum_to-clause-fails c = λ e within.
    let k : Coset = coset_by c.args.self.now.base c.args.self.now.rows.items in
    let other : Coset = coset_of c.args.k.now in
    let apart = c.in_ok-apart.apart in
    let (y, is, same) = err_from_is_err_and c.from_residual-in_err-sum_to.result c.from_residual-in_err-sum_to.ensures.1 in
    c.in_err-sum_to.ensures.fails (cc) (subst (λ (l : List Row). IsSum (points l) (point_of apart.numbers)) (sym c.deref.ensures.value)
    (sum_same other.rows (λ x. k.base x -ℤ other.base x) (point_of apart.numbers) (λ x. sym (c.in_ok-apart.ensures.minus x)) (within_base k other within)))

pub returns-clause-within : goal.returns-clause-within
returns-clause-within c =
    let k : Coset = coset_by c.args.self.now.base c.args.self.now.rows.items in
    let other : Coset = coset_of c.args.k.now in
    let apart = c.in_ok-apart.apart in
    let base : IsSum other.rows (λ x. k.base x -ℤ other.base x) =
    sum_same other.rows (point_of apart.numbers) (λ x. k.base x -ℤ other.base x) c.in_ok-apart.ensures.minus
    (subst (λ (l : List Row). IsSum (points l) (point_of apart.numbers)) c.deref.ensures.value c.in_ok-sum_to.ensures.sum) in
    ok_then c.check_rows.result (λ _. AreSumsOf other.rows k.rows) (λ _. LiesWithin k other) (λ _ rows. within_from k other base rows) c.check_rows.ensures.sums

pub returns-clause-fails : goal.returns-clause-fails
returns-clause-fails c = λ e within.
    c.check_rows.ensures.fails e (within_rows (coset_by c.args.self.now.base c.args.self.now.rows.items) (coset_of c.args.k.now) within)
