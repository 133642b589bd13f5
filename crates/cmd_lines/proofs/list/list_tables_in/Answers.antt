use Rattle.std.proofs.Common.{◌≡◌, ◌++◌, [], List, ℕ, Option, Some, sym, ◌∙◌, ap, append-nil, refl}
use Rattle.std.specs.Borrow.{Bor}
use Rattle.cmd_lines.specs.Listed.{tables_of_word}
use Rattle.cmd_lines.specs.inside.{left_tables}
use Rattle.cmd_lines.proofs.Firsts.{lists_for_nothing, lists_for_both, left_more, grown}
use Rattle.cmd_lines.proofs.list.list_tables_in.Goals as goal

pub words-init : goal.words-init
words-init c = ([], [], lists_for_nothing c.args.form.now.listing c.args.came.now.keys, sym (append-nil c.args.said.now.items), refl)

-- one word more
pub words-preserved : goal.words-preserved
words-preserved c =
    let (done, more, lists, said, left) = c.words.invariant in
    let word = c.in_ok-list_word.ensures.ok in
    let here : left_tables c.args.line ≡ done ++ left_tables (Some c.in-Some.text) = left ∙ ap (λ (o : Option (Bor (List ℕ))). done ++ left_tables o) c.in-Some.is in (
      done ++ tables_of_word c.cut_word.result.0.now,
      more ++ word.0,
      lists_for_both c.args.form.now.listing c.args.came.now.keys done c.words.came.keys (tables_of_word c.cut_word.result.0.now) c.list_word.new.came.keys more word.0 lists word.1,
      grown c.args.said.now.items more c.words.said.items word.0 c.list_word.new.said.items said word.2,
      left_more (left_tables c.args.line) done c.in-Some.text.now c.cut_word.result.0.now c.cut_word.result.1 here c.cut_word.ensures.words,
    )
