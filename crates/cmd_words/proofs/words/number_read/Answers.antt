use Rattle.std.proofs.Common.{Some, inr, arith}
use Rattle.std.proofs.lemmas.Option.{IfSome_then}
use Rattle.std.proofs.lemmas.Str.Pattern.{split_parts}
use Rattle.cmd_words.proofs.words.number_read.Goals as goal

pub returns-in-Some : goal.returns-in-Some
returns-in-Some c =
    IfSome_then c.scaled.result
    c.scaled.ensures
    (λ n is. inr (inr (
      c.in-Some.digits.now,
      c.in-Some.zeros.now,
      (split_parts 101 c.args.word.now (Some (c.in-Some.digits, c.in-Some.zeros)) c.in-Some.ensures.cases (omega arith)).0,
      is.0,
      is.1,
      is.2,
      is.3,
      is.4,
    )))
