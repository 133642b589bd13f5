use Rattle.std.proofs.Common.{[]}
use Rattle.totals.specs.Totals.{totals_of}
use Rattle.totals.proofs.Walks.{walk_begins}
use Rattle.totals.proofs.walk.Walk.new.Goals as goal

pub invariant_of-result : goal.invariant_of-result
invariant_of-result c = (
  [],
  walk_begins c.args.root c.in_ok-ahead.ahead.items (totals_of c.none.result) c.states.ensures.table (c.in_order.ensures.0 c.if-not-in_order.false) c.in_ok-ahead.ensures c.none.ensures,
)

pub returns-clause-begins : goal.returns-clause-begins
returns-clause-begins c =
    walk_begins c.args.root c.in_ok-ahead.ahead.items (totals_of c.none.result) c.states.ensures.table (c.in_order.ensures.0 c.if-not-in_order.false) c.in_ok-ahead.ensures c.none.ensures
