use Rattle.cmd_ledgers.proofs.TreeReports.{on_err}
use Rattle.cmd_parts.proofs.SplitTrees.{all_left}
use Rattle.cmd_parts.proofs.split.split_off.Goals as goal

pub returns-in_err-append_split-clause-leaves : goal.returns-in_err-append_split-clause-leaves
returns-in_err-append_split-clause-leaves g c =
    let (roots, all, begun) = c.in_ok-begin_parts.ensures.ok in
    on_err c.from_residual-in_err-append_split.result
    (roots, all, all_left (g.H.Files.tells_same c.args.host.now) c.args.folder.now roots (g.H.Files.holds c.args.host.now) (g.H.Files.holds c.begin_parts.new.host) begun)

pub returns-in_err-write_all-clause-leaves : goal.returns-in_err-write_all-clause-leaves
returns-in_err-write_all-clause-leaves g c =
    let (roots, all, begun) = c.in_ok-begin_parts.ensures.ok in
    on_err c.from_residual-in_err-write_all.result
    (roots, all, all_left (g.H.Files.tells_same c.args.host.now) c.args.folder.now roots (g.H.Files.holds c.args.host.now) (g.H.Files.holds c.begin_parts.new.host) begun)
