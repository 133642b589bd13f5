use Rattle.std.proofs.Common.{ℕ, List, sym, subst}
use Rattle.libbb.specs.TreeAnswer.{Reports}
use Rattle.libbb.specs.Pieces.{IsBehind}
use Rattle.libbb.specs.declared.reader.Behind.{Behind}
use Rattle.libbb.proofs.LoadedTexts.{loads_reports, fails_reports, ended_reports}
use Rattle.libbb.proofs.reader.Behind.report.Goals as goal

pub returns-in-Ok-clause-reports : goal.returns-in-Ok-clause-reports
returns-in-Ok-clause-reports c =
    subst (λ (b : Behind). (text : List ℕ) → IsBehind text b → Reports text c.tell.result) (sym c.in-Headed.is)
    (loads_reports c.in-Headed.loader (c.in-Ok.board, c.in-Ok.left) c.tell.result c.in-Ok.ensures c.tell.ensures.tells)

pub returns-in-Err-clause-reports : goal.returns-in-Err-clause-reports
returns-in-Err-clause-reports c =
    subst (λ (b : Behind). (text : List ℕ) → IsBehind text b → Reports text c.refused.result) (sym c.in-Headed.is)
    (fails_reports c.in-Headed.loader c.in-Err.fault c.refused.result c.in-Err.ensures c.refused.ensures.memory)

pub returns-in-Ended-clause-reports : goal.returns-in-Ended-clause-reports
returns-in-Ended-clause-reports c =
    let said = c.refused-in-Ended.ensures in
    subst (λ (b : Behind). (text : List ℕ) → IsBehind text b → Reports text c.refused-in-Ended.result) (sym c.in-Ended.is)
    (λ text is. ended_reports text c.in-Ended.fault c.refused-in-Ended.result is said.header said.root said.memory)
