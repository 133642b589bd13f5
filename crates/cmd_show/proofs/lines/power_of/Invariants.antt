use Rattle.std.proofs.Common.{◌+◌, ◌<◌, ◌≤◌, length}
use Rattle.cmd_show.proofs.lines.power_of.Given as goal

-- each word has a symbol at least
abbrev pub invariant-words : goal.invariant-words
invariant-words l = record {
  some : 0 < length l.word;
  room : l.count + length l.rest ≤ length l.text;
  more : 0 < l.count;
}

abbrev pub decreases-words : goal.decreases-words
decreases-words l = length l.rest
