use Rattle.std.proofs.Common.{[], sym, subst, List}
use Rattle.machine_text.specs.Terms.{Packed}
use Rattle.totals.specs.Totals.{IsWhole, totals_of}
use Rattle.totals.proofs.Wholes.{trunk_alone}
use Rattle.totals.proofs.whole.Whole.of.Goals as goal

pub invariant_of-result : goal.invariant_of-result
invariant_of-result c = (
  [],
  subst (λ (l : List Packed). IsWhole (record { trunk = c.args.trunk; roots = l; totals = totals_of c.in_ok-sums.sums }) []) (sym c.new.ensures.empty)
      (trunk_alone c.args.trunk (totals_of c.in_ok-sums.sums) c.root.ensures.board c.in_ok-sums.ensures),
)
