use Rattle.std.proofs.Common.{ap, sym, ◌∙◌}
use Rattle.text.specs.inside.{parts_left}
use Rattle.text.proofs.Cuts.{split_at_cut, split_nowhere}
use Rattle.text.proofs.parts.Parts.next.Goals as goal

pub returns-in-Some : goal.returns-in-Some
returns-in-Some c =
    sym c.self.view_is ∙ ap (parts_left c.self.inside.byte) c.in_ok-text.was
    ∙ split_at_cut c.self.inside.byte c.in_ok-text.text.now c.in-Some.part.now c.in-Some.rest.now c.in-Some.ensures.cut

pub returns-in-None : goal.returns-in-None
returns-in-None c =
    sym c.self.view_is ∙ ap (parts_left c.self.inside.byte) c.in_ok-text.was
    ∙ split_nowhere c.self.inside.byte c.in_ok-text.text.now c.in-None.ensures.cut
