use Rattle.std.proofs.Common.{List, [], ◌++◌, sym, ap, ◌∙◌, append_assoc, append-nil}
use Rattle.std.specs.Vec.Iter.{into_iter_items}
use Rattle.machine_text.specs.Terms.{Packed, text_of}
use Rattle.cmd_ledgers.specs.Report.{line_of, table_lines}
use Rattle.cmd_ledgers.proofs.TreeReports.{only_appended, passes_on}
use Rattle.cmd_ledgers.proofs.board_report.pass_tables.Goals as goal

pub loop-table-init : goal.loop-table-init
loop-table-init g c = (
  [],
  only_appended (g.W.Write.contents c.args.answers.now) c.args.piece.now.items c.args.piece.now.items [] (sym (append-nil c.args.piece.now.items)),
  ap (λ tables. table_lines c.args.name.now (into_iter_items tables)) c.into_iter-table-iterator.ensures.into_iter_gives,
)

pub loop-table-preserved : goal.loop-table-preserved
loop-table-preserved g c =
    let before = c.loop-table.invariant in
    let line = line_of c.args.name.now (text_of c.in-Some.table) in (
      before.0 ++ line,
      passes_on before.1 c.in_ok-pass_line.ensures,
      append_assoc before.0 line (table_lines c.args.name.now (into_iter_items c.next.new.self))
          ∙ (ap (λ (ts : List Packed). before.0 ++ table_lines c.args.name.now ts) (sym c.in-Some.ensures.steps.0) ∙ before.2),
    )
