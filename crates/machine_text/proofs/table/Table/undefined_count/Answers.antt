use Rattle.std.proofs.Common.{◌∙◌, arith, rules}
use Rattle.machine_text.proofs.Tables.{count_by-holes}
use Rattle.machine_text.proofs.table.Table.undefined_count.Goals as goal

pub returns-clause-count : goal.returns-clause-count
returns-clause-count c = c.undefined_among.ensures.count ∙ rw (← c.self.view_is) (count_by-holes _ c.self.inside.states (omega (arith, c.self.invariant.size, c.self.invariant.limit)))

-- answered by name, so that nothing is offered where an edit makes it false
pub shared_whole_as_front-undefined_among : goal.shared_whole_as_front-undefined_among
shared_whole_as_front-undefined_among c = search rules steps 100000
