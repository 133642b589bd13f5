use Rattle.kind_named.proofs.Openings.{opens_at, right_later, right_group, right_two}
use Rattle.kind_named.proofs.stacks.open_right.Goals as goal

pub put_right-requires-clause-right : goal.put_right-requires-clause-right
put_right-requires-clause-right c = right_later _ _ c.open.ensures.old 0 _ c.requires.within

pub returns-in_ok-push-in-Group-clause-put : goal.returns-in_ok-push-in-Group-clause-put
returns-in_ok-push-in-Group-clause-put c =
    right_group _ _ c.open.ensures.old _ _ c.requires.within _ _ _ (opens_at _ _ _ _ c.in-Group.is c.in_ok-g.ensures.opened) c.in_ok-put_right-in-Group.ensures c.in_ok-push-in-Group.ensures.items

pub returns-in_ok-extend_from_slice-in-Two-clause-put : goal.returns-in_ok-extend_from_slice-in-Two-clause-put
returns-in_ok-extend_from_slice-in-Two-clause-put c =
    right_two _ _ c.open.ensures.old _ _ c.requires.within _ _ _ (opens_at _ _ _ _ c.in-Two.is c.in_ok-g.ensures.opened) c.in_ok-extend_from_slice-in-Two.ensures.items
