use Rattle.libbb.proofs.LoadedTexts.{loaded_reports, unloaded_reports}
use Rattle.libbb.proofs.tree_answer.report_of.Goals as goal

pub returns-in-Ok-clause-reports : goal.returns-in-Ok-clause-reports
returns-in-Ok-clause-reports c =
    loaded_reports c.args.text.now c.args.root c.requires.header.0 (c.in-Ok.board, c.in-Ok.left) c.tell.result c.requires.header.1 c.in-Ok.ensures c.tell.ensures.tells

pub returns-in-Err-clause-reports : goal.returns-in-Err-clause-reports
returns-in-Err-clause-reports c =
    unloaded_reports c.args.text.now c.args.root c.requires.header.0 c.in-Err.fault c.refused.result c.requires.header.1 c.in-Err.ensures c.refused.ensures.memory
