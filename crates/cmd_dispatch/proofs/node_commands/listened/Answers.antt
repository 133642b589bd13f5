use Rattle.std.proofs.Common.{◌∙◌}
use Rattle.cmd_dispatch.proofs.HostedCommands.{all_where_asked, who_has_shown_it}
use Rattle.cmd_dispatch.proofs.node_commands.listened.Goals.{then-listening, else-listening}
use Rattle.cmd_dispatch.proofs.node_commands.listened.Goals as goal

pub returns : goal.returns
returns g c = elim c.if-listening.branch [
  | then-listening w ↦ all_where_asked c.args.listening.now.token _ _ w.if-listening.true (w.conduct-is ∙ w.if-listening.true)
  | else-listening w ↦ who_has_shown_it c.args.listening.now.token c.in_ok-token_of.field-0 _ _ w.if-listening.false c.in_ok-token_of.ensures (w.conduct-is ∙ w.is_some.ensures)
]
