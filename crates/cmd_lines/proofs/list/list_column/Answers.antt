use Rattle.std.proofs.Common.{rules, ◌≡◌, ◌++◌, ◌∷◌, [], ℕ, List, true, false, sym, ◌∙◌, ap, append_assoc, append-nil, refl}
use Rattle.machine_text.specs.Terms.{text_of}
use Rattle.cmd_lines.specs.Listed.{alone, found_line, tables_of_column}
use Rattle.cmd_lines.proofs.Firsts.{lists_none, lists_double, lists_first, came_before, came_not}
use Rattle.cmd_lines.proofs.list.list_column.Goals as goal

pub returns-in_default-clause-ok : goal.returns-in_default-clause-ok
returns-in_default-clause-ok c = (
  [],
  lists_none c.args.form.now.listing c.args.came.now.keys (tables_of_column c.args.is_behind_row c.args.column.now) c.table_of.result c.in_default.field-0 c.table_of.ensures c.in_default.is,
  sym (append-nil c.args.said.now.items),
)

pub returns-then-not-branch-clause-ok : goal.returns-then-not-branch-clause-ok
returns-then-not-branch-clause-ok c =
    let first = c.in_ok-put_first.field-0 in
    let none : first ≡ false = search rules in (
      [],
      lists_double c.args.form.now.listing c.args.came.now.keys c.put_first.new.came.keys (tables_of_column c.args.is_behind_row c.args.column.now) c.table_of.result c.in-Ok.t c.in_ok-t.t c.table_of.ensures c.in-Ok.is (refl, c.in_ok-t.ensures)
          (came_before c.args.came.now.keys c.in_ok-t.t first c.in_ok-put_first.ensures.ok.0 none) c.in_ok-put_first.ensures.ok.1,
      sym (append-nil c.args.said.now.items),
    )

pub returns-clause-ok : goal.returns-clause-ok
returns-clause-ok c =
    let first = c.in_ok-put_first.field-0 in
    let some : first ≡ true = search rules in (
      found_line (alone c.in_ok-t.t),
      lists_first c.args.form.now.listing c.args.came.now.keys c.put_first.new.came.keys (tables_of_column c.args.is_behind_row c.args.column.now) c.table_of.result c.in-Ok.t c.in_ok-t.t c.table_of.ensures c.in-Ok.is (refl, c.in_ok-t.ensures)
          (came_not c.args.came.now.keys c.in_ok-t.t first c.in_ok-put_first.ensures.ok.0 some) c.in_ok-put_first.ensures.ok.1,
      c.in_ok-extend_from_slice.ensures.items ∙ (ap (λ (t : List ℕ). t ++ 10 ∷ []) c.in_ok-append_table.ensures.ok ∙ append_assoc c.args.said.now.items (text_of c.in_ok-t.t) (10 ∷ [])),
    )
