use Rattle.std.proofs.Common.{length}
use Rattle.cmd_show.proofs.lines.append_folded.Given as goal

abbrev pub decreases-words : goal.decreases-words
decreases-words l = length l.rest
