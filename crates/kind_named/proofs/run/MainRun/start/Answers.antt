use Rattle.std.proofs.Common.{refl}
use Rattle.kind_named.proofs.Looping.{reaches_start}
use Rattle.kind_named.proofs.run.MainRun.start.Goals as goal

pub invariant_of-result : goal.invariant_of-result
invariant_of-result c = record {
  glides = c.in_ok-glider_glides.ensures c.if-not-branch.false;
  empty = c.new-3.ensures.items;
  reaches = reaches_start _ _ _ _ refl c.new-2.ensures.items;
}
