use Rattle.std.proofs.Common.{◌≡◌, ℕ, List, ◌++◌, map}
use Rattle.machine_text.specs.Terms.{Packed}
use Rattle.cmd_lines.specs.Listed.{alone, tables_of_columns, tables_of_word}
use Rattle.cmd_lines.specs.inside.{ListsFor, columns_left, size_left}
use Rattle.cmd_lines.proofs.list.list_word.Given as goal

-- the tables of the columns before what is left were listed
abbrev pub invariant-columns : goal.invariant-columns
invariant-columns l = (done : List Packed) × (more : List ℕ) × ListsFor l.form.listing l.fn.came.keys (map alone done) l.came.keys more × (l.said.items ≡ l.fn.said.items ++ more)
    × (tables_of_word l.word ≡ done ++ tables_of_columns l.is_behind_row (columns_left l.left))

abbrev pub decreases-columns : goal.decreases-columns
decreases-columns l = size_left l.left
