use Rattle.cmd_nodes.proofs.Coordinators.{not_none}
use Rattle.cmd_nodes.proofs.rounds.has_none_open.Goals as goal

pub returns-in-Working-clause-some : goal.returns-in-Working-clause-some
returns-in-Working-clause-some c = λ same none. not_none c.in-Working.count c.in-Working.ensures.stands.0 c.in-Working.ensures.stands.1 none
