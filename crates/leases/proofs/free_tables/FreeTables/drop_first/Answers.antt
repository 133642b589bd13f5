use Rattle.std.proofs.Common.{◌∙◌}
use Rattle.ledger.specs.Terms.{same_table}
use Rattle.ledger.proofs.Claims.{is_the_root}
use Rattle.leases.proofs.FreeLaws.{dropped}
use Rattle.leases.proofs.free_tables.FreeTables.drop_first.Goals as goal

pub loop-first-preserved : goal.loop-first-preserved
unfolding same_table
loop-first-preserved c = λ q h other.
    let same = is_the_root c.in-Some.first c.args.t.now c.ne.result c.ne.ensures c.if-ne.false in
    dropped _ _ c.in-Some.first c.pop.result c.in-Some.ensures.top c.pop.ensures.top c.pop.ensures.others c.pop.ensures.none q (c.loop-first.invariant q h other) (λ e. other (e ∙ same))
