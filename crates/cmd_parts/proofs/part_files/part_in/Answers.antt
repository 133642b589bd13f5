use Rattle.std.proofs.Common.{rules, ◌≡◌, inl, inr, refl, subst}
use Rattle.cmd_ledgers.specs.Terms.{EndsReading}
use Rattle.cmd_options.specs.declared.ended.Stopped.{Stopped}
use Rattle.cmd_options.specs.declared.ended.Stopped.TheVariants.{Ended as EndedBy}
use Rattle.cmd_options.specs.declared.ended.Ended.TheVariants.{BadHeader, WrongRoot}
use Rattle.cmd_parts.proofs.FolderAnswers.{picked_met, picked_root, refused_met}
use Rattle.cmd_parts.proofs.part_files.part_in.Goals as goal

pub returns-in-Ok-clause-met : goal.returns-in-Ok-clause-met
returns-in-Ok-clause-met g c =
    picked_met (g.F.Read.remaining c.args.file.reader) c.args.file.length c.in-Ok.part c.in-Ok._left c.args.root.now c.with_root.result c.in-Ok.ensures.ok c.with_root.ensures

pub returns-in-Ok-clause-root : goal.returns-in-Ok-clause-root
returns-in-Ok-clause-root g c = picked_root c.in-Ok.part c.args.root.now c.with_root.result c.with_root.ensures

pub returns-in-Err-Ended-BadHeader-clause-met : goal.returns-in-Err-Ended-BadHeader-clause-met
returns-in-Err-Ended-BadHeader-clause-met g c =
    let has = g.F.Read.remaining c.args.file.reader in
    let is : c.in-Err-Ended-BadHeader.field-0 ≡ EndedBy BadHeader = search rules in
    refused_met has c.args.file.length c.args.root.now BadHeader (inl refl) (subst (λ (s : Stopped). EndsReading has c.args.file.length s) is c.in-Err-Ended-BadHeader.ensures.err)

pub returns-in-Err-Ended-WrongRoot-clause-met : goal.returns-in-Err-Ended-WrongRoot-clause-met
returns-in-Err-Ended-WrongRoot-clause-met g c =
    let has = g.F.Read.remaining c.args.file.reader in
    let is : c.in-Err-Ended-WrongRoot.field-0 ≡ EndedBy WrongRoot = search rules in
    refused_met has c.args.file.length c.args.root.now WrongRoot (inr refl) (subst (λ (s : Stopped). EndsReading has c.args.file.length s) is c.in-Err-Ended-WrongRoot.ensures.err)
