use Rattle.std.proofs.Common.{ℕ, ◌+◌, ◌∷◌, List, take, sym, ◌∙◌, ap}
use Rattle.std.specs.List.{slice_split}
use Rattle.std.proofs.lemmas.List.{take_rest}
use Rattle.cmd_lines.specs.Listed.{columns, is_comma}
use Rattle.cmd_lines.proofs.Firsts.{cut_found, cut_missing}
use Rattle.cmd_lines.proofs.list.cut_column.Goals as goal

pub returns-in-Some-clause-columns : goal.returns-in-Some-clause-columns
unfolding columns
returns-in-Some-clause-columns c =
    let text = c.args.word.now in
    let at = c.in-Some.at in
    cut_found is_comma text at (sym c.end_of_column.ensures.place ∙ c.in-Some.is)
    ∙ ap (λ (rest : List ℕ). take at text ∷ slice_split is_comma rest) (sym (take_rest text (at + 1)))

pub returns-in-None-clause-columns : goal.returns-in-None-clause-columns
unfolding columns
returns-in-None-clause-columns c = cut_missing is_comma c.args.word.now (sym c.end_of_column.ensures.place ∙ c.in-None.is)
