use Rattle.law_turing.proofs.LevelLaws.{level_wider, longer_level, backward_level, level_backward, empty_below}
use Rattle.law_turing.proofs.never.backward_levels.Goals as goal

pub returns : goal.returns
returns c = record {
  width = λ n m machine k limit. (level_wider n m machine k limit, longer_level n m machine k limit);
  stands = λ n m machine d. (backward_level n m d, λ h. level_backward n m machine d h.0.0 h.0.1 h.1);
  below = empty_below;
}
