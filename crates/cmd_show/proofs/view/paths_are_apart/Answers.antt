use Rattle.cmd_show.proofs.PictureLaws.{one_table}
use Rattle.cmd_show.proofs.view.paths_are_apart.Goals as goal

pub returns : goal.returns
returns c = one_table
