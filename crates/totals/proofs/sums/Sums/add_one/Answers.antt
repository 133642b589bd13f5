use Rattle.std.proofs.Common.{sym, subst}
use Rattle.ledger.specs.declared.counts.Tally.{Tally}
use Rattle.totals.specs.inside.{TalliesFit}
use Rattle.totals.proofs.Wholes.{one_fits}
use Rattle.totals.proofs.sums.Sums.add_one.Goals as goal

pub with_part-self-requires-clause-fit : goal.with_part-self-requires-clause-fit
with_part-self-requires-clause-fit c =
    subst (λ (one : Tally). TalliesFit c.args.self.now.tally one) (sym c.tally_of_one-one.ensures)
    (one_fits c.args.self.now.tally c.args.verdict c.args.children c.requires.room.counts c.requires.children)
