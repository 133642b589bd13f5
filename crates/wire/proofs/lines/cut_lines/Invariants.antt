use Rattle.std.proofs.Common.{◌≡◌, ◌++◌, [], map, length, Some}
use Rattle.std.specs.List.{All}
use Rattle.wire.specs.Fulfilled.{IsShortLine, known, lines_from, rest_from}
use Rattle.wire.proofs.lines.cut_lines.Given as goal

-- what was cut off and the lines of what is left are together those of the text
abbrev pub invariant-lines : goal.invariant-lines
invariant-lines l = record {
  lines : map known l.lines.items ++ lines_from (Some []) l.left ≡ lines_from (Some []) l.fn.text;
  rest : rest_from (Some []) l.left ≡ rest_from (Some []) l.fn.text;
  within : All IsShortLine l.lines.items;
}

-- each line is cut off
abbrev pub decreases-lines : goal.decreases-lines
decreases-lines l = length l.left
