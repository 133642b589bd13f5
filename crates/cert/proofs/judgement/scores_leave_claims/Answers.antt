use Rattle.cert.proofs.Claims.{ends_as_shown, scored_ends, scored_shows, unscored_ends, scored_twice, scored_again, score_certified, unscored_certified, has_score}
use Rattle.cert.proofs.judgement.scores_leave_claims.Goals as goal

pub returns : goal.returns
returns c = record {
  ends = ends_as_shown;
  scored = λ p c. (scored_ends p c, scored_shows p p c);
  unscored = unscored_ends;
  again = λ p c. (scored_twice p c, scored_again p c);
  certified = λ r certified. (score_certified r certified, unscored_certified r certified);
  found = has_score;
}
