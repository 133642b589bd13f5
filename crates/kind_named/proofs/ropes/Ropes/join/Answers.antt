use Rattle.kind_named.proofs.ArenaLaws.{joined}
use Rattle.kind_named.proofs.ropes.Ropes.join.Goals as goal

pub add-requires : goal.add-requires
add-requires c = joined _ _ _ _ c.requires.a c.requires.b c.are_long-is_long.ensures.a c.are_long-is_long.ensures.b c.are_long-is_long.ensures.long
