use Rattle.std.specs.Prelude.{Contains}
use Rattle.law_turing.proofs.ClosedSets.{closed_never, stays_inside}
use Rattle.law_turing.proofs.never.position_set_never.Goals as goal

pub returns : goal.returns
returns c = record {
  never = λ g m lefts rights members closed. closed_never m (Contains lefts) (Contains rights) (Contains members) g closed;
  inside = λ g m lefts rights members closed. stays_inside m (Contains lefts) (Contains rights) (Contains members) g closed;
}
