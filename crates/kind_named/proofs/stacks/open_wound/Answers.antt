use Rattle.kind_named.proofs.Openings.{opens_at, wound_two, wound_group}
use Rattle.kind_named.proofs.stacks.open_wound.Goals as goal

pub returns-in_ok-extend_from_slice-in-Group-clause-put : goal.returns-in_ok-extend_from_slice-in-Group-clause-put
returns-in_ok-extend_from_slice-in-Group-clause-put c =
    wound_group _ _ c.open.ensures.old _ _ c.requires.within _ (opens_at _ _ _ _ c.in-Group.is c.in_ok-g.ensures.opened) _ _ c.saturating_sub-rest.ensures c.in_ok-extend_from_slice-in-Group.ensures.items

pub returns-in_ok-extend_from_slice-in-Two-clause-put : goal.returns-in_ok-extend_from_slice-in-Two-clause-put
returns-in_ok-extend_from_slice-in-Two-clause-put c =
    wound_two _ _ c.open.ensures.old _ _ c.requires.within _ _ (opens_at _ _ _ _ c.in-Two.is c.in_ok-g.ensures.opened) _ c.in_ok-extend_from_slice-in-Two.ensures.items
