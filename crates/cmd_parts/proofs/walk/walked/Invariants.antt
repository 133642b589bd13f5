use Rattle.cmd_parts.specs.inside.{IsOfAnswers}
use Rattle.cmd_parts.proofs.walk.walked.Given as goal

-- it tells of answers of the tree
abbrev pub invariant-loop : goal.invariant-loop
invariant-loop g l = IsOfAnswers _ g.D.Decider.answers l.fn.root l.walk
