use Rattle.std.proofs.Common.{take}
use Rattle.cmd_parts.specs.inside.Joining.{SaysMissed}
use Rattle.cmd_parts.proofs.answer.says_missing.Given as goal

-- the roots before the place were looked for
abbrev pub invariant-loop-root : goal.invariant-loop-root
invariant-loop-root g l = SaysMissed l.came.keys (take l.root-index l.roots) l.are_all (g.E.Write.contents l.fn.faults) (g.E.Write.contents l.faults)
