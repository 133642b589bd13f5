use Rattle.std.proofs.Common.{length}
use Rattle.cmd_explain.proofs.closed_sets.context_cells.Given as goal

abbrev pub decreases-parts : goal.decreases-parts
decreases-parts l = length l.parts
