use Rattle.cmd_explain.proofs.Sights.{halts_seen}
use Rattle.cmd_explain.proofs.seen.halted.Goals as goal

pub returns : goal.returns
returns c k within = (within, halts_seen c.args.runner c.args.count c.into_score.result c.steps.ensures.stands c.requires.halts c.requires.last c.into_score.ensures)
