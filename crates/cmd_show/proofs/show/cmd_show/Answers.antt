use Rattle.cmd_show.proofs.PictureLaws.{told_lines}
use Rattle.cmd_show.proofs.show.cmd_show.Goals as goal

pub returns : goal.returns
returns g c = told_lines c.show_for.result _ _ _ _ c.told.result c.show_for.ensures.lines c.show_for.ensures.err c.told.ensures
