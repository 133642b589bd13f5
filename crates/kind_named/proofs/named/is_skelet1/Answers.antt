use Rattle.std.proofs.Common.{sym, ◌∙◌}
use Rattle.kind_named.proofs.KindLaws.{is_table, is_text}
use Rattle.kind_named.proofs.named.is_skelet1.Goals as goal

pub returns : goal.returns
returns c = (
  (λ yes. is_table _ _ c.text-text.ensures.parses (sym c.is_its_text.ensures ∙ yes)),
  (λ is. c.is_its_text.ensures ∙ is_text _ _ c.text-text.ensures.text is),
)
