use Rattle.law_turing.proofs.Renaming.{mirrored_machine, mirror_keeps, mirror_kept, mirror_keeps_score, mirror_kept_score}
use Rattle.law_turing.proofs.laws.mirror_keeps.Goals as goal

pub returns : goal.returns
returns c = record {
  machine = mirrored_machine;
  count = λ m k. (mirror_keeps m k, mirror_kept m k);
  score = λ m k s. (mirror_keeps_score m k s, mirror_kept_score m k s);
}
