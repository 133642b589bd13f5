use Rattle.std.proofs.Common.{◌≡◌, ℕ, List, ◌++◌, map}
use Rattle.machine_text.specs.Terms.{Packed}
use Rattle.cmd_lines.specs.Listed.{alone}
use Rattle.cmd_lines.specs.inside.{ListsFor, left_tables, size_left}
use Rattle.cmd_lines.proofs.list.list_tables_in.Given as goal

-- the tables of the words before what is left were listed
abbrev pub invariant-words : goal.invariant-words
invariant-words l = (done : List Packed) × (more : List ℕ) × ListsFor l.form.listing l.fn.came.keys (map alone done) l.came.keys more × (l.said.items ≡ l.fn.said.items ++ more)
    × (left_tables l.line ≡ done ++ left_tables l.left)

abbrev pub decreases-words : goal.decreases-words
decreases-words l = size_left l.left
