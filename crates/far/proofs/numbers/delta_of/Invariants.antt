use Rattle.far.specs.inside.Reading.{AreMoves}
use Rattle.far.proofs.numbers.delta_of.Given as goal

abbrev pub invariant-loop-k : goal.invariant-loop-k
invariant-loop-k l = AreMoves l.size l.text l.k l.delta
