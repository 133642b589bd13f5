use Rattle.std.proofs.Common.{inl, inr, sym, subst}
use Rattle.law_turing.proofs.RunLaws.{one_count}
use Rattle.law_turing.specs.Terms.{HaltsAt}
use Rattle.law_tree.specs.Tree.{Scores}
use Rattle.law_tree.proofs.Extensions.{steps_worth, score_worth, score_count, covered, covers}
use Rattle.law_tree.proofs.trees.extensions_by_children.Goals as goal

-- both ways
pub returns-clause-steps : goal.returns-clause-steps
returns-clause-steps c = λ n u k q t s m i o h. (
  λ a. elim (covered HaltsAt steps_worth n u m k q s t i o h a) [ inl own ↦ inl (one_count m t k own h.halts) | inr child ↦ inr child ],
  λ r. elim r [ inl own ↦ covers HaltsAt steps_worth n u m k q s t i o h (inl (subst (HaltsAt m) (sym own) h.halts)) | inr child ↦ covers HaltsAt steps_worth n u m k q s t i o h (inr child) ],
)

pub returns-clause-score : goal.returns-clause-score
returns-clause-score c = λ n u k q t s m i o h. (
  λ a. elim (covered Scores score_worth n u m k q s t i o h a) [ inl own ↦ inl (score_count m k t h.halts own) | inr child ↦ inr child ],
  λ r. elim r [ inl own ↦ covers Scores score_worth n u m k q s t i o h (inl (k, own)) | inr child ↦ covers Scores score_worth n u m k q s t i o h (inr child) ],
)
