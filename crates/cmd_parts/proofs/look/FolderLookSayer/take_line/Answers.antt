use Rattle.std.proofs.Common.{ℕ, List, [], ◌∷◌, ◌++◌, ap, ◌∙◌, refl, append_assoc}
use Rattle.cmd_parts.proofs.look.FolderLookSayer.take_line.Goals as goal

pub returns-clause-ok : goal.returns-clause-ok
returns-clause-ok g c =
    let said = c.in_ok-outcome.ensures.says in (
      said.0 ++ 10 ∷ [],
      (
        c.in_ok-outcome.ensures.place.0,
        c.in_ok-outcome.ensures.place.1,
        c.in_ok-outcome.ensures.place.2,
        λ kept. (c.in_ok-outcome.ensures.kept kept, (said.0, said.1 kept, refl)),
      ),
      c.in_ok-extend_from_slice.ensures.items ∙ (ap (λ (l : List ℕ). l ++ 10 ∷ []) said.2 ∙ append_assoc c.args.said.now.items said.0 (10 ∷ [])),
    )
