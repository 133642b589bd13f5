use Rattle.kind_named.proofs.ArenaLaws.{place_within, known, known_odd}
use Rattle.kind_named.proofs.ropes.Ropes.is_long.Goals as goal

pub index-requires : goal.index-requires
index-requires c = place_within _ _ _ _ c.self.view_is c.self.inside.pieces.ok.0 c.requires

pub returns-clause-long : goal.returns-clause-long
returns-clause-long c = (known _ _ _ _ c.self.invariant c.self.view_is c.requires c.index.ensures).long

pub returns-clause-odd : goal.returns-clause-odd
returns-clause-odd c = known_odd _ _ c.args.i c.self.invariant c.self.view_is
