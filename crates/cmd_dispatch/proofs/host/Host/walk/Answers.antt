use Rattle.std.proofs.Common.{ap, inl, refl}
use Rattle.std.proofs.lemmas.Result.{err_from_is_err_and}
use Rattle.cmd_dispatch.specs.Lines.{output_of}
use Rattle.cmd_dispatch.proofs.HostedCommands.{not_saved, found_or_saved, saved}
use Rattle.cmd_dispatch.proofs.host.Host.walk.Goals as goal

pub returns-in_err-root : goal.returns-in_err-root
returns-in_err-root g c =
    let p = err_from_is_err_and c.from_residual.result c.from_residual.ensures.1 in
    rw p.1 (
      not_saved (g.H.Files.tells_same c.args.self.now.files) (g.H.Files.holds c.args.self.now.files) c.args.walking.now.saving,
      inl refl,
    )

pub returns-in-None : goal.returns-in-None
returns-in-None g c =
    let said = output_of g.W.Write.contents g.E.Write.contents c.args.self.now c.walk_found.new.self in
    rw c.in-None.is (
      λ path. ap (λ files. g.H.Files.holds files path) c.walk_found.ensures.files,
      found_or_saved _ _ said c.walk_found.result c.walk_found.ensures.walks,
    )

pub returns-in-Some : goal.returns-in-Some
returns-in-Some g c =
    let said = output_of g.W.Write.contents g.E.Write.contents c.args.self.now c.walk_saved.new.self in
    rw c.in-Some.is (c.walk_saved.ensures.saves, saved _ _ said c.walk_saved.result c.walk_saved.ensures.walks)
