use Rattle.std.proofs.Common.{Bool, ap, ◌∙◌, ◌+◌, get_or, cond}
use Rattle.cmd_page.proofs.PageLaws.{reaches_one}
use Rattle.cmd_page.proofs.census.count_power.Goals as goal

pub returns-in-Some : goal.returns-in-Some
returns-in-Some c = λ k few.
    c.count_up.ensures k ∙ ap (λ (b : Bool). get_or c.args.counts.now k 0 + cond b 1 0) (reaches_one c.args.n c.in-Some.k c.in-Some.ensures.power_le c.in-Some.ensures.next_power_gt k)
