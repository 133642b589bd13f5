use Rattle.std.proofs.Common.{◌∙◌, sym}
use Rattle.std.proofs.lemmas.List.{append-nil}
use Rattle.kind_named.proofs.Openings.{right_later}
use Rattle.kind_named.proofs.Leading.{passes_cut, passes_group}
use Rattle.kind_named.proofs.visit.cut_in_a.Goals as goal

pub returns-in_default : goal.returns-in_default
returns-in_default c = passes_cut _ _ _ _ _ c.requires (c.in_default.ensures.items ∙ append-nil _) c.in_ok-push.ensures.items

pub put_left-requires-clause-left : goal.put_left-requires-clause-left
put_left-requires-clause-left c = right_later _ _ c.group.ensures.old 0 _ c.requires.on_left

pub returns-in-Some-odd_group : goal.returns-in-Some-odd_group
returns-in-Some-odd_group c =
    passes_group _ _ _ _ _ _ _ _ _ _ c.requires c.group.ensures.old c.put_left.ensures.old c.in-Some.ensures.items c.in-Some-odd_group.ensures c.in_ok-i.ensures.rope.1 c.in_ok-put_left.ensures.put

pub returns : goal.returns
returns c = passes_cut _ _ _ _ _ c.requires (c.in-Some.ensures.items ∙ sym c.in_ok-push-2.ensures.items) c.in_ok-push-3.ensures.items
