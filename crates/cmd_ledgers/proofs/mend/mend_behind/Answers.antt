use Rattle.std.proofs.Common.{subst}
use Rattle.machine_text.specs.Terms.{IsTable}
use Rattle.cmd_ledgers.proofs.Offered.{all_mended}
use Rattle.cmd_ledgers.proofs.mend.mend_behind.Goals as goal

pub returns : goal.returns
returns g c =
    let (same, empty, none) = c.in_ok-mender.ensures in
    let (more, are, (lines, are_lines, taken)) = c.in_ok-take_all.ensures in
    let (at, mended) = all_mended c.args.root (subst IsTable same c.root.ensures.board.is_table) c.in_ok-mender.mender c.take_all.new.mender lines same empty none taken in
    (at, (more, are, (lines, are_lines, mended)))
