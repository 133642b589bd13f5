use Rattle.std.proofs.Common.{subst, sym, ap}
use Rattle.kind_named.specs.inside.Tokens.{ropes_of, IsArena}
use Rattle.kind_named.proofs.ArenaLaws.{arena_none}
use Rattle.kind_named.proofs.ropes.Ropes.new.Goals as goal

pub invariant_of-result : goal.invariant_of-result
invariant_of-result c = subst IsArena (sym c.new.ensures.items) arena_none

pub returns : goal.returns
unfolding ropes_of
returns c = ap (ropes_of _) c.new.ensures.items
