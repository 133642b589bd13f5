use Rattle.far.specs.inside.Reading.{AreEdges}
use Rattle.far.proofs.numbers.rows_of.Given as goal

abbrev pub invariant-loop-k : goal.invariant-loop-k
invariant-loop-k l = AreEdges l.limit l.text l.k l.parts l.rows
