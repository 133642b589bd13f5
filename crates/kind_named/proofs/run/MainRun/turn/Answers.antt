use Rattle.kind_named.proofs.Looping.{reaches_more}
use Rattle.kind_named.proofs.run.MainRun.turn.Goals as goal

pub invariant_of-result : goal.invariant_of-result
invariant_of-result c = record {
  glides = c.self.invariant.glides;
  empty = c.in_ok-beyond.ensures.right;
  reaches = reaches_more _ _ _ _ _ _ _ _ c.in_ok-turns.ensures c.self.invariant.reaches c.in_ok-beyond.ensures.turns;
}
