use Rattle.std.proofs.Common.{ℕ, List, ◌++◌, ap, ◌∙◌}
use Rattle.cmd_nodes.proofs.Traffic.{carries_all}
use Rattle.cmd_nodes.proofs.couriers.deliver.Goals as goal

pub returns-clause-whole : goal.returns-clause-whole
returns-clause-whole c =
    let fulfilled = c.in_ok-deliver_frames.ensures.frames in
    λ none. fulfilled.2 ∙ ap (λ (l : List ℕ). c.args.to.now.waiting ++ l) (carries_all _ _ _ _ fulfilled.0 none fulfilled.1 ∙ c.sent.ensures)
