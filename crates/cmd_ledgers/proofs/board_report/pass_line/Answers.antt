use Rattle.std.proofs.Common.{List, ℕ, subst}
use Rattle.cmd_ledgers.specs.Report.{Passes}
use Rattle.cmd_ledgers.proofs.TreeReports.{on_ok, passes_on}
use Rattle.cmd_ledgers.proofs.board_report.pass_line.Goals as goal

pub returns : goal.returns
returns g c =
    let text = subst (λ (l : List ℕ). Passes (g.W.Write.contents c.pass-2.new.answers) c.pass-2.new.piece.items (g.W.Write.contents c.pass-3.new.answers) c.pass-3.new.piece.items l) c.text.ensures.text c.in_ok-pass-3.ensures in
    on_ok c.pass-4.result (λ last. passes_on (passes_on (passes_on c.in_ok-pass.ensures c.in_ok-pass-2.ensures) text) last) c.pass-4.ensures
