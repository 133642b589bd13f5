use Rattle.cmd_ledgers.proofs.TreeReports.{on_ok}
use Rattle.cmd_ledgers.proofs.board_report.write_report.Goals as goal

pub returns-clause-ok : goal.returns-clause-ok
returns-clause-ok g c = on_ok c.write_told.result (λ told. told c.args.board.now.root c.args.board.now.records c.in_ok-of.ensures) c.write_told.ensures.ok
