use Rattle.std.proofs.Common.{refl}
use Rattle.kind_named.proofs.SectionLaws.{rebuild_group, rebuild_cut, rebuild_rope}
use Rattle.kind_named.proofs.rebuild.rebuild_one.Goals as goal

pub returns-in_ok-put_left-in-Group-clause-rebuilds : goal.returns-in_ok-put_left-in-Group-clause-rebuilds
returns-in_ok-put_left-in-Group-clause-rebuilds c = rebuild_group _ _ _ _ _ _ _ _ _ c.in-Group.is c.turned.ensures c.in_ok-put_left-in-Group.ensures.put

pub returns-in_ok-put_left-in-Cut-clause-rebuilds : goal.returns-in_ok-put_left-in-Cut-clause-rebuilds
returns-in_ok-put_left-in-Cut-clause-rebuilds c = rebuild_cut _ _ _ _ _ _ _ c.in-Cut.is (c.if-not-suits.ensures refl) c.in_ok-put_left-in-Cut.ensures.put

pub returns-in_ok-put_left-in-Rope-clause-rebuilds : goal.returns-in_ok-put_left-in-Rope-clause-rebuilds
returns-in_ok-put_left-in-Rope-clause-rebuilds c =
    rebuild_rope _ _ _ _ _ _ _ _ c.in-Rope.is (c.if-not-suits-2.ensures refl) (c.are_odd.ensures _) c.in_ok-put_left-in-Rope.ensures.put
