use Rattle.cmd_explain.proofs.Sights.{run_said}
use Rattle.cmd_explain.proofs.seen.append_run.Goals as goal

pub returns : goal.returns
returns c =
    run_said c.args.steps c.args.t.now c.in_ok-seen.seen _ _ _ _ _ c.in_ok-seen.ensures c.in_ok-append_answer.ensures
    c.in_ok-extend_from_slice.ensures.items c.in_ok-push.ensures.items
