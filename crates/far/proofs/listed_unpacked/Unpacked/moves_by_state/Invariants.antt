use Rattle.std.proofs.Common.{◌≡◌}
use Rattle.far.specs.inside.ListedUnpacked.{numbers_of_unpacked}
use Rattle.far.specs.inside.Steps.{all_moves}
use Rattle.far.proofs.listed_unpacked.Unpacked.moves_by_state.Given as goal

abbrev pub invariant-loop-q : goal.invariant-loop-q
invariant-loop-q l = l.moves.items ≡ all_moves (numbers_of_unpacked l.self) l.q
