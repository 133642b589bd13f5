use Rattle.text.proofs.Cuts.{line_of_cut, none_of_cut}
use Rattle.text.proofs.parts.first_line.Goals as goal

pub returns-clause-some : goal.returns-clause-some
returns-clause-some c = line_of_cut c.args.text.now c.cut_at.result c.cut_at.ensures.cut

pub returns-clause-none : goal.returns-clause-none
returns-clause-none c = none_of_cut c.args.text.now c.cut_at.result c.cut_at.ensures.cut
