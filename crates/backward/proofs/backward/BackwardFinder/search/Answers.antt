use Rattle.std.proofs.Common.{◌∙◌, ◌<◌, sym, length, arith}
use Rattle.backward.proofs.PathLaws.{done_is, done_not, counted_err, counted_ok, not_too_wide, stands_if, none_if, many_stands, not_reached}
use Rattle.backward.proofs.backward.BackwardFinder.search.Goals as goal

-- some depth has too many paths
pub returns-then-is_err-clause-none : goal.returns-then-is_err-clause-none
returns-then-is_err-clause-none c d early stands =
    let many = counted_err c.args.t.now c.min-limit.result c.in_ok-count.field-0 c.count.new.self.counts.items c.in_ok-count.ensures.counted (sym c.is_err.ensures.value ∙ c.if-is_err.true) in
    many_stands c.args.t.now c.min-limit.result d c.in_ok-count.ensures.table many (omega (arith, c.min.ensures, c.min-limit.ensures)) stands

-- each depth has a path
pub returns-in_default-clause-none : goal.returns-in_default-clause-none
returns-in_default-clause-none c d early stands =
    let counts = c.count.new.self.counts.items in
    let counted = counted_ok c.args.t.now c.min-limit.result c.in_ok-count.field-0 counts c.in_ok-count.ensures.counted (sym c.is_err.ensures.value ∙ c.if-is_err.false) in
    let inside : d < length counts = omega (arith, counted.1, c.min.ensures, c.min-limit.ensures) in
    let some = rw c.deref.ensures.value at c.in_default.ensures.none in
    absurd (some d inside (none_if c.args.t.now d counts counted.0 inside stands))

-- the run halts before the first depth without a path
pub returns-then-not-branch-clause-none : goal.returns-then-not-branch-clause-none
returns-then-not-branch-clause-none c d early stands =
    let counts = c.count.new.self.counts.items in
    let counted = counted_ok c.args.t.now c.min-limit.result c.in_ok-count.field-0 counts c.in_ok-count.ensures.counted (sym c.is_err.ensures.value ∙ c.if-is_err.false) in
    let inside : d < length counts = omega (arith, counted.1, c.min.ensures, c.min-limit.ensures) in
    let first = rw c.deref.ensures.value at c.in-Some.ensures.some in
    let not = done_not c.args.t.now c.in-Some.depth c.in_ok-does_steps.field-0 c.in_ok-does_steps.ensures c.if-not-branch.true in
    absurd (not_reached c.args.t.now c.in-Some.depth d counts counted.0 inside first.2 not stands)

pub returns-clause-found : goal.returns-clause-found
returns-clause-found c =
    let counts = c.count.new.self.counts.items in
    let counted = counted_ok c.args.t.now c.min-limit.result c.in_ok-count.field-0 counts c.in_ok-count.ensures.counted (sym c.is_err.ensures.value ∙ c.if-is_err.false) in
    let first = rw c.deref.ensures.value at c.in-Some.ensures.some in
    let run = done_is c.args.t.now c.in-Some.depth c.in_ok-does_steps.field-0 c.in_ok-does_steps.ensures c.if-not-branch.false in (
      stands_if c.args.t.now c.in-Some.depth counts run counted.0 first.0 first.1,
      not_too_wide c.args.t.now c.in-Some.depth counts run counted.0 first.0,
      omega (arith, first.0, counted.1, c.min.ensures, c.min-limit.ensures),
    )

pub returns-clause-least : goal.returns-clause-least
returns-clause-least c d before stands =
    let counts = c.count.new.self.counts.items in
    let counted = counted_ok c.args.t.now c.min-limit.result c.in_ok-count.field-0 counts c.in_ok-count.ensures.counted (sym c.is_err.ensures.value ∙ c.if-is_err.false) in
    let first = rw c.deref.ensures.value at c.in-Some.ensures.some in
    first.2 d before (none_if c.args.t.now d counts counted.0 (omega (arith, first.0)) stands)
