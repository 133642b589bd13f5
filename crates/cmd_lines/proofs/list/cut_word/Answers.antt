use Rattle.std.proofs.Common.{ℕ, ◌+◌, ◌∷◌, List, not, take, sym, ◌∙◌, ap}
use Rattle.std.specs.List.{slice_split}
use Rattle.std.proofs.lemmas.List.{take_rest}
use Rattle.cmd_lines.specs.Listed.{is_word_byte, words}
use Rattle.cmd_lines.proofs.Firsts.{cut_found, cut_missing}
use Rattle.cmd_lines.proofs.list.cut_word.Goals as goal

pub returns-in-Some-clause-words : goal.returns-in-Some-clause-words
unfolding words
returns-in-Some-clause-words c =
    let p = λ (b : ℕ). not (is_word_byte b) in
    let text = c.args.text.now in
    let at = c.in-Some.at in
    cut_found p text at (sym c.end_of_word.ensures.place ∙ c.in-Some.is)
    ∙ ap (λ (rest : List ℕ). take at text ∷ slice_split p rest) (sym (take_rest text (at + 1)))

pub returns-in-None-clause-words : goal.returns-in-None-clause-words
unfolding words
returns-in-None-clause-words c = cut_missing (λ (b : ℕ). not (is_word_byte b)) c.args.text.now (sym c.end_of_word.ensures.place ∙ c.in-None.is)
