use Rattle.kind_named.proofs.ArenaLaws.{repeated}
use Rattle.kind_named.proofs.ropes.Ropes.repeat.Goals as goal

pub add-requires : goal.add-requires
add-requires c = repeated _ _ _ _ c.requires.a c.is_long-is_long.ensures.odd c.is_long-is_long.ensures.long
