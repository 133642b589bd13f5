use Rattle.std.proofs.Common.{◌≡◌, ◌++◌, take}
use Rattle.far.specs.Texts.{delta_text}
use Rattle.far.proofs.numbers.append_delta.Given as goal

abbrev pub invariant-loop-target : goal.invariant-loop-target
invariant-loop-target l = l.out.items ≡ l.fn.out.items ++ delta_text (take l.target-index l.delta)
