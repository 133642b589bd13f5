use Rattle.std.proofs.Common.{inr}
use Rattle.ledger.proofs.StageLaws.{if_err}
use Rattle.cmd_parts.proofs.JoinedParts.{warns_all, all_told}
use Rattle.cmd_parts.proofs.join.join_parts.Goals as goal

pub returns-clause-tells : goal.returns-clause-tells
returns-clause-tells g c = all_told (g.P.ReportForm.is_text c.args.form.now) (g.S.PartLedgers.finds c.args.parts.now) c.args.folder.now (g.C.Collector.text c.args.collector.now) (g.C.Collector.text c.gather.new.collector)
    (g.W.Write.contents c.args.answers.now) (g.W.Write.contents c.tell_whole.new.answers) (g.E.Write.contents c.args.faults.now) (g.E.Write.contents c.gather.new.faults)
    c.in_ok-whole.whole c.in_ok-whole.is_sound c.tell_whole.result c.in_ok-whole.ensures.ok c.tell_whole.ensures.ok

pub returns-clause-warned : goal.returns-clause-warned
returns-clause-warned g c =
    let gathered = c.in_ok-whole.ensures.ok in
    let warns = warns_all (g.S.PartLedgers.finds c.args.parts.now) c.args.folder.now c.in_ok-whole.whole.trunk gathered.parts gathered.lines (g.E.Write.contents c.args.faults.now) (g.E.Write.contents c.gather.new.faults) gathered.holds gathered.says in
    if_err c.tell_whole.result (λ e silent. inr warns) c.tell_whole.ensures.err
