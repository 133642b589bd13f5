use Rattle.std.proofs.Common.{take}
use Rattle.cmd_parts.specs.inside.{AreOthers}
use Rattle.cmd_parts.proofs.join.spare.Given as goal

-- those before the place are others
abbrev pub invariant-loop-root : goal.invariant-loop-root
invariant-loop-root g l = AreOthers (g.S.PartLedgers.tells_written l.parts) l.folder (take l.root-index l.roots)
