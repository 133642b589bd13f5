use Rattle.std.proofs.Common.{◌+◌, ◌*◌, inl, inr, refl, arith, None}
use Rattle.std.proofs.lemmas.Bool.{cases_lt}
use Rattle.std.proofs.lemmas.List.{get_or_past}
use Rattle.backward.proofs.paths.PathCounter.count_once.Goals as goal

-- each cell is unknown anew, and those beyond them are never known
pub count_all-requires-clause-unknown : goal.count_all-requires-clause-unknown
count_all-requires-clause-unknown c x =
    rw c.deref_mut.ensures.value (elim (cases_lt x (2 * c.args.depth + 1)) [
      | inl less ↦ c.in_ok-resize.ensures.by_index.1 x None refl (omega (arith, c.clear.ensures.len)) less
      | inr past ↦ get_or_past c.resize.new.self.items x None (omega (arith, c.in_ok-resize.ensures.len))
    ])
