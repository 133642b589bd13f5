use Rattle.std.proofs.Common.{refl}
use Rattle.kind_named.proofs.Openings.{ends_one}
use Rattle.kind_named.proofs.tokens.take_one.Goals as goal

pub returns-then-is_same-clause-taken : goal.returns-then-is_same-clause-taken
returns-then-is_same-clause-taken c = λ yes. ends_one _ _ _ _ _ _ _ c.in_ok-open_left.ensures.same c.in-Some.ensures.items (c.if-is_same.ensures refl)
