use Rattle.std.proofs.Common.{Ok, sym, subst}
use Rattle.law_turing.specs.Terms.{HaltsAt}
use Rattle.law_tree.specs.Terms.{Scores, IsBestOfTable}
use Rattle.machine_text.specs.Terms.{Packed}
use Rattle.ledger.specs.Terms.{Contents}
use Rattle.ledger.specs.declared.header.Format.TheVariants.{Two}
use Rattle.cmd_options.specs.declared.ended.Outcome.{Outcome}
use Rattle.cmd_ledgers.specs.Terms.{ReportsTree}
use Rattle.cmd_parts.specs.Settle.{IsWalkedBoard, WalksTree}
use Rattle.cmd_parts.proofs.SettledTables.{none_open, walk_reports}
use Rattle.cmd_parts.proofs.walk.walk_tree.Goals as goal

pub returns : goal.returns
returns g c =
    let is_text = g.P.ReportForm.is_text c.args.form.now in
    let held = g.W.Write.contents c.args.answers.now in
    let new_held = g.W.Write.contents c.write_told.new.answers in
    let so = c.in_ok-walk.ensures.answers in
    let told = c.in_ok-told.ensures so.records so.walked in
    let written = c.in_ok-write_told.ensures.ok c.in_ok-walk.walk.root so.records told in
    let board : Contents = record { root = c.in_ok-walk.walk.root; records = so.records; format = Two } in
    let kept = IsWalkedBoard _ g.D.Decider.answers in
    let reports : ReportsTree is_text c.args.root kept held new_held board = record {
      is_board = so.walked.is_board;
      is_root = so.is_root;
      written = written.0;
      is_text = written.1;
      appends = written.2;
      kept = (so.are_answers, none_open c.in_ok-walk.walk so.records c.in_ok-walk.ensures.done so.walked);
    } in
    subst (λ (o : Outcome). WalksTree is_text c.args.root kept held new_held (Ok o)) (sym c.outcome_by.ensures)
    (walk_reports is_text c.args.root kept held new_held board c.status-status.result reports (c.status-status.ensures.stands so.records so.walked)
    (λ best ones is. subst (λ (p : Packed). IsBestOfTable HaltsAt p best) so.is_root (c.status-status.ensures.best best ones is))
    (λ best ones is. subst (λ (p : Packed). IsBestOfTable Scores p ones) so.is_root (c.status-status.ensures.ones best ones is)))
