use Rattle.kind_named.proofs.Openings.{within_rest, rope_taken}
use Rattle.kind_named.proofs.Leading.{lead_x, lead_y, lead_cut, lead_rope}
use Rattle.kind_named.proofs.steps.step_right.Goals as goal

pub at_cut-requires : goal.at_cut-requires
at_cut-requires c = record { on_left = c.requires.on_left; on_right = within_rest _ _ _ _ c.in-Some.ensures.items c.requires.on_right }

pub at_rope-requires-clause-sound : goal.at_rope-requires-clause-sound
at_rope-requires-clause-sound c = record { on_left = c.requires.on_left; on_right = within_rest _ _ _ _ c.in-Some.ensures.items c.requires.on_right }

pub at_rope-requires-clause-token : goal.at_rope-requires-clause-token
at_rope-requires-clause-token c = rope_taken _ _ _ _ _ c.in-Some.ensures.items c.in-Rope.is c.requires.on_right

pub returns-in_ok-put_left-in-X : goal.returns-in_ok-put_left-in-X
returns-in_ok-put_left-in-X c = λ beyond. lead_x beyond _ _ _ _ _ _ _ _ c.in-Some.ensures.items c.requires c.put_left.ensures.old _ _ c.turned.ensures c.in-X.is c.in_ok-put_left-in-X.ensures.put

pub returns-in_ok-put_left-in-Y : goal.returns-in_ok-put_left-in-Y
returns-in_ok-put_left-in-Y c =
    λ beyond. lead_y beyond _ _ _ _ _ _ _ _ c.in-Some.ensures.items c.requires c.put_left-in-Y.ensures.old _ _ c.turned-in-Y.ensures c.in-Y.is c.in_ok-put_left-in-Y.ensures.put

pub returns-in_ok-heading-in-Cut : goal.returns-in_ok-heading-in-Cut
returns-in_ok-heading-in-Cut c = λ beyond. lead_cut beyond _ _ _ _ _ _ _ _ c.in-Some.ensures.items _ _ c.in-Cut.is c.in_ok-heading-in-Cut.ensures

pub returns-in_ok-at_rope-in-Rope : goal.returns-in_ok-at_rope-in-Rope
returns-in_ok-at_rope-in-Rope c = λ beyond. lead_rope beyond _ _ _ _ _ _ _ _ c.in-Some.ensures.items _ _ c.in-Rope.is c.in_ok-at_rope-in-Rope.ensures
