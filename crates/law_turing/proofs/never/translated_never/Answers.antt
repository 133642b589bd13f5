use Rattle.law_turing.proofs.Cycles.{translated_never}
use Rattle.law_turing.proofs.never.translated_never.Goals as goal

pub returns : goal.returns
returns c = translated_never
