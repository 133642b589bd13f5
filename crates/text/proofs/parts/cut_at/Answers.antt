use Rattle.std.proofs.Common.{sym, ◌∙◌}
use Rattle.text.proofs.Cuts.{cut_found, cut_missing}
use Rattle.text.proofs.parts.cut_at.Goals as goal

pub returns-in_err-at-clause-cut : goal.returns-in_err-at-clause-cut
returns-in_err-at-clause-cut c = rw c.from_residual.ensures (sym (cut_missing c.args.byte c.args.text.now (sym c.first_place.ensures.place ∙ c.in_err-at.was)))

pub returns-clause-cut : goal.returns-clause-cut
returns-clause-cut c = cut_found c.args.byte c.args.text.now c.in_ok-at.at (sym c.first_place.ensures.place ∙ c.in_ok-at.was)
