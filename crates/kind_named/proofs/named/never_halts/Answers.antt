use Rattle.std.proofs.Common.{subst, sym, refl}
use Rattle.machine_text.specs.Terms.{entry_of}
use Rattle.law_turing.specs.Terms.{Never}
use Rattle.kind_named.proofs.named.never_halts.Goals as goal

pub returns-in-Ok-clause-never : goal.returns-in-Ok-clause-never
returns-in-Ok-clause-never c = λ yes. subst (λ p. Never (entry_of p)) (sym (c.if-not-is_skelet1.ensures.0 refl)) (c.in-Ok.ensures yes)
