use Rattle.std.proofs.Common.{◌≡◌, inr, refl, subst}
use Rattle.machine_text.specs.Terms.{entry_of}
use Rattle.law_turing.specs.Terms.{Never}
use Rattle.kind_named.specs.Kind.{skelet1}
use Rattle.kind_named.proofs.named.NamedEvidence.check.Goals as goal

pub returns-in-Ok-true-clause-ok : goal.returns-in-Ok-true-clause-ok
returns-in-Ok-true-clause-ok c =
    let is : c.args.t.now ≡ skelet1 = c.is_skelet1.ensures.0 c.if-not-is_skelet1.false in
    (refl, tt, inr (is, subst (λ o. Never (entry_of o)) is (c.in-Ok-true.ensures.never c.in-Ok-true.field-0-test)), λ none. none)
