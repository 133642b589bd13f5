use Rattle.kind_named.proofs.Openings.{opens_at, rope_two, rope_group}
use Rattle.kind_named.proofs.stacks.open_rope.Goals as goal

pub returns-in_ok-extend_from_slice-in-Group-clause-put : goal.returns-in_ok-extend_from_slice-in-Group-clause-put
returns-in_ok-extend_from_slice-in-Group-clause-put c =
    rope_group _ _ c.open.ensures.old _ _ c.requires.within _ (opens_at _ _ _ _ c.in-Group.is c.in_ok-g.ensures.opened) _ c.in_ok-extend_from_slice-in-Group.ensures.items

pub returns-in_ok-extend_from_slice-in-Two-clause-put : goal.returns-in_ok-extend_from_slice-in-Two-clause-put
returns-in_ok-extend_from_slice-in-Two-clause-put c =
    rope_two _ _ c.open.ensures.old _ _ c.requires.within _ _ (opens_at _ _ _ _ c.in-Two.is c.in_ok-g.ensures.opened) _ c.in_ok-extend_from_slice-in-Two.ensures.items
