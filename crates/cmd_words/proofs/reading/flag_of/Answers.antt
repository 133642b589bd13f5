use Rattle.std.proofs.Common.{◌∙◌}
use Rattle.clap.specs.Words.{found_of}
use Rattle.clap.proofs.WalkLemmas.{one_text-rows}
use Rattle.cmd_words.proofs.reading.flag_of.Goals as goal

pub returns : goal.returns
returns c =
    let same = one_text-rows (found_of c.args.matches.now) c.args.flag.name.now in
    record {
      none = λ is. c.get_flag.ensures.none (same ∙ is);
      yes = λ is. c.get_flag.ensures.value (same ∙ is);
      no = λ is. c.get_flag.ensures.other (same ∙ is);
    }
