use Rattle.law_turing.proofs.BackwardLaws.{path_ends, ends_path}
use Rattle.law_turing.proofs.never.paths_end.Goals as goal

pub returns : goal.returns
returns c = λ n m d. (
  (λ p. (p.1.start, p.1.within, path_ends m d p.1.start p.0 p.1.size p.1.runs)),
  (λ e. let p = ends_path m d e.0 e.2 in (p.0, record { size = p.1; start = e.0; within = e.1; runs = p.2 })),
)
