use Rattle.cmd_page.proofs.PageTexts.{escaped_plain, escaped_one}
use Rattle.cmd_page.proofs.shell.escaped_is_plain.Goals as goal

pub returns-clause-plain : goal.returns-clause-plain
returns-clause-plain c = escaped_plain

pub returns-clause-one : goal.returns-clause-one
returns-clause-one c = escaped_one
