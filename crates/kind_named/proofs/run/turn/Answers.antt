use Rattle.kind_named.proofs.Looping.{turn_jump, turn_round}
use Rattle.kind_named.proofs.run.turn.Goals as goal

pub returns-then-count-gt0-clause-turns : goal.returns-then-count-gt0-clause-turns
returns-then-count-gt0-clause-turns c = turn_jump _ _ _ _ _ _ _ c.if-count-gt0.true c.in_ok-count.ensures

pub returns-clause-turns : goal.returns-clause-turns
returns-clause-turns c = turn_round _ _ _ _ _ _ _ _ _ c.in_ok-count.ensures c.in_ok-round.ensures.rounds
