use Rattle.std.proofs.Common.{rules, ◌≡◌, inl, inr, refl, subst}
use Rattle.std.specs.Prelude.{codes}
use Rattle.cmd_ledgers.specs.Terms.{EndsReading}
use Rattle.cmd_options.specs.declared.ended.Stopped.{Stopped}
use Rattle.cmd_options.specs.declared.ended.Stopped.TheVariants.{Ended as EndedBy}
use Rattle.cmd_options.specs.declared.ended.Ended.TheVariants.{BadHeader, WrongRoot}
use Rattle.cmd_parts.specs.Join.{IsMetAs, IsMetIn}
use Rattle.cmd_parts.proofs.JoinedParts.{met_so, unmet}
use Rattle.cmd_parts.proofs.join.add_read.Goals as goal

pub returns-in-Ok-clause-ok : goal.returns-in-Ok-clause-ok
returns-in-Ok-clause-ok g c =
    let has = g.F.Read.remaining c.args.file.reader in
    met_so (g.C.Collector.counts c.args.collector.now) (g.C.Collector.counts c.add_loaded.new.collector) (IsMetAs c.in-Ok.part c.in-Ok.left c.args.path.now c.args.root.now) (IsMetIn has c.args.file.length c.args.path.now c.args.root.now) c.add_loaded.result _ _ _ _ _ _
    (λ counted said met. inl (c.in-Ok.part, c.in-Ok.left, c.in-Ok.ensures.ok, met)) c.add_loaded.ensures.ok

pub returns-in-Err-Ended-BadHeader-clause-ok : goal.returns-in-Err-Ended-BadHeader-clause-ok
returns-in-Err-Ended-BadHeader-clause-ok g c =
    let has = g.F.Read.remaining c.args.file.reader in
    let is : c.in-Err-Ended-BadHeader.field-0 ≡ EndedBy BadHeader = search rules in
    let reading = subst (λ (s : Stopped). EndsReading has c.args.file.length s) is c.in-Err-Ended-BadHeader.ensures.err in
    unmet (g.C.Collector.counts c.args.collector.now) (IsMetIn has c.args.file.length c.args.path.now c.args.root.now) c.says.result _ _ _ _ c.args.path.now (codes "refused 404") (inr (BadHeader, refl, inl refl, reading, refl)) c.says.ensures.ok

pub returns-in-Err-Ended-WrongRoot-clause-ok : goal.returns-in-Err-Ended-WrongRoot-clause-ok
returns-in-Err-Ended-WrongRoot-clause-ok g c =
    let has = g.F.Read.remaining c.args.file.reader in
    let is : c.in-Err-Ended-WrongRoot.field-0 ≡ EndedBy WrongRoot = search rules in
    let reading = subst (λ (s : Stopped). EndsReading has c.args.file.length s) is c.in-Err-Ended-WrongRoot.ensures.err in
    unmet (g.C.Collector.counts c.args.collector.now) (IsMetIn has c.args.file.length c.args.path.now c.args.root.now) c.says-in-Err-Ended-WrongRoot.result _ _ _ _ c.args.path.now (codes "refused 405") (inr (WrongRoot, refl, inr refl, reading, refl))
    c.says-in-Err-Ended-WrongRoot.ensures.ok
