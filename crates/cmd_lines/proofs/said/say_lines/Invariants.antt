use Rattle.std.proofs.Common.{◌≡◌, []}
use Rattle.cmd_lines.specs.inside.{IsSaid}
use Rattle.cmd_lines.proofs.said.say_lines.Given as goal

-- what was read is taken, and what was said to it is written
abbrev pub invariant-loop : goal.invariant-loop
invariant-loop g l =
    IsSaid g.S.Sayer.takes l.fn.sayer (g.R.Read.remaining l.fn.input) (g.R.Read.remaining l.input) (g.W.Write.contents l.fn.says) (g.W.Write.contents l.says) l.lines l.saying.outcome l.saying.sayer
    × (l.saying.waits.items ≡ [])
