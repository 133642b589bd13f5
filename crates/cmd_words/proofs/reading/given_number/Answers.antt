use Rattle.std.proofs.Common.{sym, ◌∙◌}
use Rattle.std.proofs.lemmas.Option.{IfSome_then}
use Rattle.clap.specs.Words.{found_of}
use Rattle.clap.proofs.WalkLemmas.{first_value-rows}
use Rattle.cmd_words.proofs.reading.given_number.Goals as goal

pub returns : goal.returns
returns c =
    IfSome_then c.number_read.result
    c.number_read.ensures
    (λ n is. (
      c.in_ok-word.word.now,
      sym (first_value-rows (found_of c.args.matches.now) c.args.name.now) ∙ sym c.in_ok-word.ensures,
      is,
    ))
