use Rattle.kind_named.proofs.TokenLaws.{merges_at_xx, merges_at_xy, merges_at_yx}
use Rattle.kind_named.proofs.stacks.merged.Goals as goal

pub returns-in_ok-sum-in-X-X : goal.returns-in_ok-sum-in-X-X
returns-in_ok-sum-in-X-X c = merges_at_xx _ _ _ _ _ c.in-X-X.is-0 c.in-X-X.is-1 c.in_ok-sum-in-X-X.ensures

pub returns-in_ok-sum-in-X-Y : goal.returns-in_ok-sum-in-X-Y
returns-in_ok-sum-in-X-Y c = merges_at_xy _ _ _ _ _ c.in-X-Y.is-0 c.in-X-Y.is-1 c.in_ok-sum-in-X-Y.ensures

pub returns-in_ok-sum-in-Y-X : goal.returns-in_ok-sum-in-Y-X
returns-in_ok-sum-in-Y-X c = merges_at_yx _ _ _ _ _ c.in-Y-X.is-0 c.in-Y-X.is-1 c.in_ok-sum-in-Y-X.ensures
