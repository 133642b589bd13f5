use Rattle.std.proofs.Common.{List, ℕ, subst}
use Rattle.std.specs.Io.KnownBytes.{Appends}
use Rattle.cmd_ledgers.specs.Report.{Passes}
use Rattle.cmd_ledgers.proofs.TreeReports.{on_ok, report_passed}
use Rattle.cmd_ledgers.proofs.board_report.write_lines.Goals as goal

pub returns : goal.returns
returns g c =
    let ones = subst (λ (l : List ℕ). Passes (g.W.Write.contents c.pass_tables.new.answers) c.pass_tables.new.piece.items (g.W.Write.contents c.pass.new.answers) c.pass.new.piece.items l) c.deref.ensures.value c.in_ok-pass.ensures in
    let tail = subst (λ (l : List ℕ). Passes (g.W.Write.contents c.pass_tables-3.new.answers) c.pass_tables-3.new.piece.items (g.W.Write.contents c.pass-2.new.answers) c.pass-2.new.piece.items l) c.deref-2.ensures.value c.in_ok-pass-2.ensures in
    on_ok c.write_all.result
    (λ last. report_passed (g.W.Write.contents c.write_all.new.self) c.in_ok-pass_tables.ensures ones c.in_ok-pass_tables-2.ensures c.in_ok-pass_tables-3.ensures tail
    (subst (λ (l : List ℕ). Appends (g.W.Write.contents c.pass-2.new.answers) (g.W.Write.contents c.write_all.new.self) l) c.deref-3.ensures.value last))
    c.write_all.ensures.bytes
