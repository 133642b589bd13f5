use Rattle.tape.proofs.Halves.{IsLookedAt}
use Rattle.tape.proofs.tape.Tape.ones_are_in.Given as goal

abbrev pub invariant-loop-block : goal.invariant-loop-block
invariant-loop-block l = IsLookedAt l.side l.from l.shift l.first l.block l.self.ones l.other.ones
