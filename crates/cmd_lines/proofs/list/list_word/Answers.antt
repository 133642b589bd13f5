use Rattle.std.proofs.Common.{◌≡◌, ◌++◌, [], List, ℕ, Option, Some, sym, ◌∙◌, ap, append-nil, refl}
use Rattle.std.specs.Borrow.{Bor}
use Rattle.cmd_lines.specs.Listed.{tables_of_column, tables_of_columns, tables_of_word}
use Rattle.cmd_lines.specs.inside.{columns_left}
use Rattle.cmd_lines.proofs.Firsts.{lists_for_nothing, lists_for_both, columns_more, grown}
use Rattle.cmd_lines.proofs.list.list_word.Goals as goal

pub columns-init : goal.columns-init
columns-init c = ([], [], lists_for_nothing c.args.form.now.listing c.args.came.now.keys, sym (append-nil c.args.said.now.items), refl)

-- one column more
pub columns-preserved : goal.columns-preserved
columns-preserved c =
    let (done, more, lists, said, left) = c.columns.invariant in
    let column = c.in_ok-list_column.ensures.ok in
    let behind = c.columns.is_behind_row in
    let here : tables_of_word c.args.word.now ≡ done ++ tables_of_columns behind (columns_left (Some c.in-Some.text)) =
    left ∙ ap (λ (o : Option (Bor (List ℕ))). done ++ tables_of_columns behind (columns_left o)) c.in-Some.is in (
      done ++ tables_of_column behind c.cut_column.result.0.now,
      more ++ column.0,
      lists_for_both c.args.form.now.listing c.args.came.now.keys done c.columns.came.keys (tables_of_column behind c.cut_column.result.0.now) c.list_column.new.came.keys more column.0 lists column.1,
      grown c.args.said.now.items more c.columns.said.items column.0 c.list_column.new.said.items said column.2,
      columns_more (tables_of_word c.args.word.now) done behind c.in-Some.text.now c.cut_column.result.0.now c.cut_column.result.1 here c.cut_column.ensures.columns,
    )
