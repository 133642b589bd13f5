use Rattle.std.proofs.Common.{◌≡◌, ℕ, List, ◌++◌, length}
use Rattle.cmd_nodes.specs.Moving.{Delivers}
use Rattle.cmd_nodes.proofs.couriers.deliver_frames.Given as goal

-- some was delivered, and once the rest is fulfilled, all is
abbrev pub invariant-frames : goal.invariant-frames
invariant-frames l = (l.losses.every ≡ l.fn.losses.every) × ((done : List ℕ) × (l.to.waiting ≡ l.fn.to.waiting ++ done)
    × ((delivered : List ℕ) (after : ℕ) → Delivers l.fn.losses.every l.losses.counted l.left delivered after
    → Delivers l.fn.losses.every l.fn.losses.counted l.fn.sent (done ++ delivered) after))

abbrev pub decreases-frames : goal.decreases-frames
decreases-frames l = length l.left
