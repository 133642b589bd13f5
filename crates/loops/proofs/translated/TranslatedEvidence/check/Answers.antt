use Rattle.std.proofs.Common.{refl, rules}
use Rattle.loops.proofs.translated.TranslatedEvidence.check.Goals as goal

pub returns-then-branch-clause-ok : goal.returns-then-branch-clause-ok
returns-then-branch-clause-ok c = (refl, search rules, c.in_ok-has_translated.ensures.0 c.if-branch.true, λ wide. wide)
