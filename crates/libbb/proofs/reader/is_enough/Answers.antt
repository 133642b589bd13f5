use Rattle.std.proofs.Common.{inl}
use Rattle.text.proofs.Cuts.{line_has_newline}
use Rattle.libbb.proofs.reader.is_enough.Goals as goal

pub returns-in-Some-clause-enough : goal.returns-in-Some-clause-enough
returns-in-Some-clause-enough c = λ _. inl (λ none. line_has_newline c.in-Some.ensures.some none)
