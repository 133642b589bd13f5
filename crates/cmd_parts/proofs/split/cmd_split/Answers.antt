use Rattle.std.specs.Prelude.{codes}
use Rattle.cmd_ledgers.specs.Terms.{AtSomeTime}
use Rattle.cmd_parts.specs.Settle.{path_within}
use Rattle.cmd_parts.proofs.SplitTrees.{splits}
use Rattle.cmd_parts.proofs.split.cmd_split.Goals as goal

pub returns : goal.returns
returns g c =
    let splitting = c.args.splitting.now in
    let split = c.split_in.ensures in (
      c.split_in.result,
      splits (AtSomeTime _ g.D.Decider.answers) (g.H.Files.locks (path_within splitting.folder.now (codes "trunk"))) (g.H.Files.tells_same c.args.host.now) splitting.states splitting.filled splitting.folder.now
          (g.H.Files.holds c.args.host.now) (g.H.Files.holds c.split_in.new.host) (g.W.Write.contents c.args.answers.now) (g.W.Write.contents c.split_in.new.answers) c.split_in.result
          split.splits split.silent split.leaves,
      c.told.ensures,
    )
