use Rattle.cmd_ledgers.proofs.TreeReports.{on_ok}
use Rattle.cmd_page.proofs.PageLaws.{counted_page}
use Rattle.cmd_page.proofs.page.write_page.Goals as goal

pub returns-clause-ok : goal.returns-clause-ok
returns-clause-ok g c =
    let board = c.args.board.now in
    on_ok c.write_report.result (λ so. (
      so.0,
      counted_page c.args.heading.now board.root board.records c.args.left.now so.0 c.census_of-census.result c.census_of-census.ensures so.1,
      so.2,
    )) c.write_report.ensures.ok
