use Rattle.std.proofs.Common.{◌∙◌, sym}
use Rattle.std.proofs.lemmas.Bool.{eqb-true}
use Rattle.far.proofs.Digits.{not_empty}
use Rattle.far.proofs.fields.hex_number.Goals as goal

pub returns-then-is_empty-clause-none : goal.returns-then-is_empty-clause-none
returns-then-is_empty-clause-none c = not_empty _ _ (eqb-true _ _ (sym c.is_empty.ensures ∙ c.if-is_empty.true))
