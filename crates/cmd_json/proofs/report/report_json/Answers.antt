use Rattle.cmd_ledgers.proofs.TreeReports.{on_ok, tree_report, tells_rado}
use Rattle.cmd_json.specs.Forms.{IsJsonReport, json_text}
use Rattle.cmd_json.proofs.JsonAnswers.{appended}
use Rattle.cmd_json.proofs.report.report_json.Goals as goal

pub returns-clause-ok : goal.returns-clause-ok
returns-clause-ok c =
    let is : IsJsonReport c.args.board.now.root c.args.board.now.records c.deref.result.now = rw c.deref.ensures.value c.in_ok-text.ensures in
    appended c.extend_from_slice.result _ _ _ _ is c.extend_from_slice.ensures.items

pub returns-clause-complete : goal.returns-clause-complete
returns-clause-complete c =
    let is : IsJsonReport c.args.board.now.root c.args.board.now.records c.deref.result.now = rw c.deref.ensures.value c.in_ok-text.ensures in
    on_ok c.extend_from_slice.result (λ t complete. (t.0, tree_report json_text c.args.board.now t.0 c.root.ensures.board complete t.1, t.2))
    (appended c.extend_from_slice.result (IsJsonReport c.args.board.now.root c.args.board.now.records) _ _ _ is c.extend_from_slice.ensures.items)

pub returns-clause-rado : goal.returns-clause-rado
returns-clause-rado c =
    let is : IsJsonReport c.args.board.now.root c.args.board.now.records c.deref.result.now = rw c.deref.ensures.value c.in_ok-text.ensures in
    on_ok c.extend_from_slice.result (λ t complete n some within root. (
      t.0,
      tells_rado json_text c.args.board.now n t.0 c.root.ensures.board complete some within root t.1,
      t.2,
    )) (appended c.extend_from_slice.result (IsJsonReport c.args.board.now.root c.args.board.now.records) _ _ _ is c.extend_from_slice.ensures.items)
