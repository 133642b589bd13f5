use Rattle.cmd_ledgers.proofs.TreeReports.{tree_report, tells_rado, one_report}
use Rattle.cmd_ledgers.proofs.board_report.complete_boards_report_their_tree.Goals as goal

pub returns-clause-tree : goal.returns-clause-tree
returns-clause-tree c = tree_report

pub returns-clause-one : goal.returns-clause-one
returns-clause-one c = one_report

pub returns-clause-rado : goal.returns-clause-rado
returns-clause-rado c = tells_rado
