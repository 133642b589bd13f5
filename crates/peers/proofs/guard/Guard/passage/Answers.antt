use Rattle.std.proofs.Common.{◌≡◌, ◌∙◌, Option, Some, ap, subst, sym}
use Rattle.peers.specs.declared.guard.Dismissal.{Dismissal}
use Rattle.peers.specs.Guard.{GuardState}
use Rattle.peers.proofs.Answering.{some_is}
use Rattle.peers.proofs.guard.Guard.passage.Goals as goal

pub returns-then-is_some : goal.returns-then-is_some
returns-then-is_some c =
    subst (λ (d : Option Dismissal). (why : Dismissal) × (d ≡ Some why)) (ap (λ (s : GuardState). s.dismissal) c.self.view_is)
    (some_is c.self.inside.dismissal (sym c.is_some.ensures ∙ c.if-is_some.true))
