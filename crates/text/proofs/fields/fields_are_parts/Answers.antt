use Rattle.text.proofs.DecimalFields.{parts_of-spaced, spaced_line, number_is_field}
use Rattle.text.proofs.fields.fields_are_parts.Goals as goal

pub returns-clause-parts : goal.returns-clause-parts
returns-clause-parts c = parts_of-spaced

pub returns-clause-line : goal.returns-clause-line
returns-clause-line c = spaced_line

pub returns-clause-number : goal.returns-clause-number
returns-clause-number c = number_is_field
