use Rattle.cmd_dispatch.specs.Lines.{Said}
use Rattle.cmd_dispatch.proofs.HostedCommands.{joined}
use Rattle.cmd_dispatch.proofs.host.Host.join_folder.Goals as goal

pub returns : goal.returns
returns g c =
    let alone = rw c.of-form.ensures at c.cmd_join-outcome.ensures.alone in
    let into = rw c.of-form.ensures at c.cmd_join-outcome.ensures.into in
    let files = c.args.self.now.files in
    let faults = g.E.Write.contents c.args.self.now.faults in
    let new_faults = g.E.Write.contents c.cmd_join-outcome.new.faults in
    let said : Said = record {
      held = g.W.Write.contents c.args.self.now.answers;
      new_held = g.W.Write.contents c.cmd_join-outcome.new.answers;
      faults = faults;
      new_faults = new_faults;
    } in (
      faults,
      new_faults,
      joined g.H.Files.locks (g.H.Files.tells_same files) c.args.joining.now (g.H.Files.holds files) (g.H.Files.holds c.cmd_join-outcome.new.host) said
          faults new_faults c.args.joining.now.out c.cmd_join-outcome.result alone into,
    )
