use Rattle.cmd_parts.proofs.SettledTables.{begins, goes_on}
use Rattle.cmd_parts.proofs.walk.walked.Goals as goal

pub loop-init : goal.loop-init
loop-init g c = begins _ g.D.Decider.answers c.args.root c.in-Ok.walk c.in-Ok.ensures.root c.in-Ok.ensures.begins

pub loop-preserved : goal.loop-preserved
loop-preserved g c =
    let on = c.in_ok-walk.ensures.goes_on in
    goes_on _ g.D.Decider.answers c.args.root c.loop.walk c.walk.new.self on.0 c.loop.invariant on.1
