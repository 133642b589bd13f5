use Rattle.law_turing.proofs.Renaming.{exchanged_machine, exchange_keeps, exchange_kept, exchange_keeps_score, exchange_kept_score}
use Rattle.law_turing.proofs.laws.exchange_keeps.Goals as goal

pub returns : goal.returns
returns c = record {
  machine = exchanged_machine;
  count = λ a b m k pa pb. (exchange_keeps a b m k pa pb, exchange_kept a b m k pa pb);
  score = λ a b m k s pa pb. (exchange_keeps_score a b m k s pa pb, exchange_kept_score a b m k s pa pb);
}
