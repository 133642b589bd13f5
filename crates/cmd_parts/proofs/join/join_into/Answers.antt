use Rattle.std.proofs.Common.{inl, inr, refl, sym, subst}
use Rattle.std.proofs.lemmas.Result.{err_from_is_err_and}
use Rattle.cmd_options.specs.declared.ended.Ended.{Ended}
use Rattle.cmd_options.specs.Terms.{PrintsNothing}
use Rattle.cmd_parts.specs.AtPaths.{finds_at}
use Rattle.cmd_parts.specs.Join.{WarnsFirst}
use Rattle.cmd_parts.proofs.join.join_into.Goals as goal

pub returns-in_err-made-clause-joins : goal.returns-in_err-made-clause-joins
returns-in_err-made-clause-joins g c =
    let Finds = finds_at (g.H.Files.holds c.args.host.now) in
    let said = g.W.Write.contents c.args.answers.now in
    let new_said = g.W.Write.contents c.joined.new.answers in
    let faults = g.E.Write.contents c.args.faults.now in
    let new_faults = g.E.Write.contents c.joined.new.faults in
    let p = err_from_is_err_and c.from_residual-in_err-made.result c.from_residual-in_err-made.ensures.1 in
    rw p.1 (
      inl (subst (λ (e : Ended). PrintsNothing e said new_said × WarnsFirst Finds c.args.folder.now faults new_faults e) (sym p.2) (c.in_err-made.ensures.silent, c.in_err-made.ensures.warned)),
      λ path. refl,
    )

pub returns-in_err-put_at-clause-joins : goal.returns-in_err-put_at-clause-joins
returns-in_err-put_at-clause-joins g c =
    let p = err_from_is_err_and c.from_residual-in_err-put_at.result c.from_residual-in_err-put_at.ensures.1 in
    let told = c.in_ok-made.ensures.ok in
    rw p.1 (inr (told.0, _, c.in_ok-made.outcome, told.2), c.in_err-put_at.ensures.err)
