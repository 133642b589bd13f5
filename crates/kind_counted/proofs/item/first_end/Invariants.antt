use Rattle.kind_counted.proofs.ReadTexts.{HasNone}
use Rattle.kind_counted.proofs.item.first_end.Given as goal

abbrev pub invariant-loop-k : goal.invariant-loop-k
invariant-loop-k l = HasNone l.text l.k
