use Rattle.std.proofs.Common.{rules, ◌≡◌, Some, None}
use Rattle.std.specs.Prelude.{codes}
use Rattle.machine_text.specs.Terms.{text_of}
use Rattle.cmd_parts.specs.Join.{IsMet, IsMetIn}
use Rattle.cmd_parts.specs.Settle.{path_within}
use Rattle.cmd_parts.proofs.JoinedParts.{met_nothing, met_so, met_there, unmet}
use Rattle.cmd_parts.proofs.join.join_part.Goals as goal

pub returns-in-Some-clause-ok : goal.returns-in-Some-clause-ok
returns-in-Some-clause-ok g c =
    let Finds = g.S.PartLedgers.finds c.args.parts.now in
    let folder = c.args.folder.now in
    let root = c.args.root.now in
    let has = g.S.File.Read.remaining c.in-Some.file.reader in
    let size = c.in-Some.file.length in
    let is : c.deref.result.now ≡ path_within folder (text_of root) = search rules in
    let same : c.deref-in-Some.result.now ≡ path_within folder (text_of root) = search rules in
    let finds : Finds c.deref.result.now (Some (has, size)) = search rules in
    met_so (g.C.Collector.counts c.args.collector.now) (g.C.Collector.counts c.add_read.new.collector) (IsMetIn has size c.deref-in-Some.result.now root) (IsMet Finds folder root) c.add_read.result _ _ _ _ _ _ (met_there Finds folder root c.deref.result.now c.deref-in-Some.result.now has size is same finds) c.add_read.ensures.ok

pub returns-clause-ok : goal.returns-clause-ok
returns-clause-ok g c =
    let Finds = g.S.PartLedgers.finds c.args.parts.now in
    let folder = c.args.folder.now in
    let root = c.args.root.now in
    let is : c.deref.result.now ≡ path_within folder (text_of root) = search rules in
    let same : c.deref-in-None.result.now ≡ path_within folder (text_of root) = search rules in
    let finds : Finds c.deref.result.now None = search rules in
    unmet (g.C.Collector.counts c.args.collector.now) (IsMet Finds folder root) c.says.result _ _ _ _ c.deref-in-None.result.now (codes "missing") (met_nothing Finds folder root c.deref.result.now c.deref-in-None.result.now is same finds) c.says.ensures.ok
