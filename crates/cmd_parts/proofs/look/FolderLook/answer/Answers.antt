use Rattle.std.proofs.Common.{Result, sym, subst, ◌∙◌}
use Rattle.machine_text.specs.Terms.{Packed}
use Rattle.cert.specs.declared.record.RecordFault.{RecordFault}
use Rattle.cmd_ledgers.proofs.TreeReports.{if_ok}
use Rattle.cmd_parts.specs.Look.{SaysByFolder, SaysOfRead}
use Rattle.cmd_parts.proofs.look.FolderLook.answer.Goals as goal

pub returns-in-Ok-clause-says : goal.returns-in-Ok-clause-says
returns-in-Ok-clause-says g c =
    let read = sym c.in-Ok.is ∙ c.table_of_line.ensures in
    if_ok c.look_up.result (λ o said. (
      said.0,
      λ kept. subst (λ (x : Result Packed RecordFault). SaysOfRead (SaysByFolder (g.S.PartLedgers.finds c.args.self.now.parts.now) c.args.self.now.folder.now c.args.self.now.trunk) x o said.0) read (said.1 kept),
      said.2,
    )) c.look_up.ensures.says
