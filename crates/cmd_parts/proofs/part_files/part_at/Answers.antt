use Rattle.std.proofs.Common.{rules, ◌≡◌, ℕ, List, Some, None, subst}
use Rattle.machine_text.specs.Terms.{text_of}
use Rattle.cmd_parts.specs.Settle.{path_within}
use Rattle.cmd_parts.proofs.FolderAnswers.{missing_found, part_found}
use Rattle.cmd_parts.proofs.part_files.part_at.Goals as goal

pub returns-in-Some : goal.returns-in-Some
returns-in-Some g c =
    let Finds = g.S.PartLedgers.finds c.args.parts.now in
    let folder = c.args.folder.now in
    let root = c.args.root.now in
    let has = g.S.File.Read.remaining c.in-Some.file.reader in
    let size = c.in-Some.file.length in
    let is : c.deref.result.now ≡ path_within folder (text_of root) = search rules in
    let finds : Finds c.deref.result.now (Some (has, size)) = search rules in
    part_found Finds folder root has size (subst (λ (p : List ℕ). Finds p (Some (has, size))) is finds) c.part_in.result c.part_in.ensures.met c.part_in.ensures.root

pub returns : goal.returns
returns g c =
    let Finds = g.S.PartLedgers.finds c.args.parts.now in
    let folder = c.args.folder.now in
    let root = c.args.root.now in
    let is : c.deref.result.now ≡ path_within folder (text_of root) = search rules in
    let finds : Finds c.deref.result.now None = search rules in
    missing_found Finds folder root (subst (λ (p : List ℕ). Finds p None) is finds)
