use Rattle.cmd_page.proofs.PageTexts.{embedded_plain}
use Rattle.cmd_page.proofs.shell.embedded_begins_no_tag.Goals as goal

pub returns : goal.returns
returns c = embedded_plain
