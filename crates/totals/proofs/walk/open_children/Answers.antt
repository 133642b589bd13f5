use Rattle.std.proofs.Common.{IsSome, reverse, sym, ◌∙◌}
use Rattle.std.proofs.lemmas.List.{length-reverse}
use Rattle.law_tree.specs.Terms.{IsChildTable}
use Rattle.ledger.proofs.Sets.{rising_apart}
use Rattle.totals.proofs.Walks.{exactly_reverse}
use Rattle.totals.proofs.SingleRecords.{some_opened}
use Rattle.totals.proofs.walk.open_children.Goals as goal

pub returns-in-Some-clause-opened : goal.returns-in-Some-clause-opened
returns-in-Some-clause-opened c = (
  reverse c.children_on.result,
  c.put_all.ensures.items,
  c.put_all.ensures.number ∙ sym (length-reverse c.children_on.result),
  exactly_reverse (λ q. IsSome c.args.halts_on × IsChildTable c.args.t.now q) c.children_on.result
      (some_opened c.args.t.now c.args.halts_on c.in-Some.pair c.children_on.result c.in-Some.is c.children_on.ensures.members (rising_apart c.children_on.result c.children_on.ensures.rising)),
)
