use Rattle.std.proofs.Common.{◌<◌, length, subst, sym, ◌∙◌, ap}
use Rattle.kind_named.specs.inside.Tokens.{ropes_of, groups_at}
use Rattle.kind_named.proofs.ArenaLaws.{added}
use Rattle.kind_named.proofs.ropes.Ropes.add.Goals as goal

pub invariant_of-self-2 : goal.invariant_of-self-2
invariant_of-self-2 c = (added _ _ _ _ c.self.invariant c.self.view_is c.requires c.in_ok-push.ensures.items).0

pub returns-clause-old : goal.returns-clause-old
returns-clause-old c = (added _ _ _ _ c.self.invariant c.self.view_is c.requires c.in_ok-push.ensures.items).1

pub returns-clause-rope : goal.returns-clause-rope
returns-clause-rope c =
    let all = added _ _ _ _ c.self.invariant c.self.view_is c.requires c.in_ok-push.ensures.items in
    let size = c.len-place.ensures ∙ c.self.inside.pieces.ok.0 in
    (subst (λ n. n < length (ropes_of _ c.push.new.self.items)) (sym size) all.2, ap (groups_at (ropes_of _ c.push.new.self.items)) size ∙ all.3)
