use Rattle.std.proofs.Common.{rules, sym, ◌∙◌}
use Rattle.clap.specs.Words.{found_of}
use Rattle.clap.proofs.WalkLemmas.{first_value-rows}
use Rattle.cmd_words.proofs.Givens.{none_text}
use Rattle.cmd_words.proofs.reading.number_if_given.Goals as goal

pub returns-then-is_none-clause-given : goal.returns-then-is_none-clause-given
returns-then-is_none-clause-given c =
    sym (first_value-rows (found_of c.args.matches.now) c.args.number.name.now)
    ∙ (sym c.get_str.ensures ∙ none_text c.get_str.result (search rules))
