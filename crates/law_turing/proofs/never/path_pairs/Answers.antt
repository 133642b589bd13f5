use Rattle.std.proofs.Common.{sym, subst}
use Rattle.law_turing.specs.NeverHalting.{IsPath}
use Rattle.law_turing.proofs.BackwardLaws.{path_zero, zero_path, path_suc}
use Rattle.law_turing.proofs.never.path_pairs.Goals as goal

pub returns : goal.returns
returns c = record {
  halting = λ n m pairs. (path_zero n m pairs, λ h. subst (IsPath n m 0) (sym h.1) (zero_path n m h.0 h.2 h.3));
  deeper = path_suc;
}
