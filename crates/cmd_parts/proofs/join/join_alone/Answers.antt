use Rattle.cmd_parts.proofs.JoinedParts.{told_alone}
use Rattle.cmd_parts.proofs.join.join_alone.Goals as goal

pub returns : goal.returns
returns g c = told_alone (g.P.ReportForm.is_text c.args.form.now) c.args.folder.now (g.W.Write.contents c.args.answers.now) (g.W.Write.contents c.join_parts.new.answers)
    (g.E.Write.contents c.args.faults.now) (g.E.Write.contents c.join_parts.new.faults) (g.H.Files.holds c.args.host.now) c.join_parts.result c.join_parts.ensures.tells c.join_parts.ensures.silent c.join_parts.ensures.warned
