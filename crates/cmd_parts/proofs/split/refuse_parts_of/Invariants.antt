use Rattle.std.proofs.Common.{All, Ok, false, take}
use Rattle.cmd_parts.proofs.split.refuse_parts_of.Given as goal

-- those before the place have none
abbrev pub invariant-loop-t : goal.invariant-loop-t
invariant-loop-t g l = All (λ t. g.G.Folder.sees l.folder t (Ok false)) (take l.t-index l.tables)
