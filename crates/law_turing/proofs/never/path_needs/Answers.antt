use Rattle.law_turing.proofs.BackwardLaws.{base_law, join_law, clash_law, needed_path}
use Rattle.law_turing.proofs.never.path_needs.Goals as goal

pub returns : goal.returns
returns c = record { halting = base_law; before = join_law; only = clash_law; path = needed_path }
