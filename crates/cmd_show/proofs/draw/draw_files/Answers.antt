use Rattle.std.proofs.lemmas.Result.{IfErr-weaker}
use Rattle.cmd_lines.proofs.AnsweredPieces.{none_said, said_so}
use Rattle.cmd_lines.specs.Terms.{IsSaidToFirst}
use Rattle.cmd_show.specs.Drawn.{DrawsFirstLines, DrawsLine}
use Rattle.cmd_show.proofs.draw.draw_files.Goals as goal

pub returns-in-Ok-clause-first : goal.returns-in-Ok-clause-first
returns-in-Ok-clause-first g c =
    let Takes = DrawsLine g.H.Files.tells_same g.H.Files.holds c.args.folder.now in
    let read = g.R.Read.remaining c.args.input.now in
    let new_read = g.R.Read.remaining c.draw_within.new.input in
    IfErr-weaker c.draw_within.result _ _ (λ e so.
    said_so (IsSaidToFirst Takes c.make_folder.new.self read new_read) (DrawsFirstLines g.H.Files.tells_same g.H.Files.holds c.args.folder.now c.args.host.now read new_read) _ _ e
    (λ said is. record { first = c.make_folder.new.self; kept = c.make_folder.ensures.kept; still = c.make_folder.ensures.tells; draws = is }) so) c.draw_within.ensures.first

pub returns-in-Err-clause-first : goal.returns-in-Err-clause-first
returns-in-Err-clause-first g c =
    let Takes = DrawsLine g.H.Files.tells_same g.H.Files.holds c.args.folder.now in
    let read = g.R.Read.remaining c.args.input.now in
    said_so (IsSaidToFirst Takes c.make_folder.new.self read read) (DrawsFirstLines g.H.Files.tells_same g.H.Files.holds c.args.folder.now c.args.host.now read read) _ _ _
    (λ said is. record { first = c.make_folder.new.self; kept = c.make_folder.ensures.kept; still = c.make_folder.ensures.tells; draws = is })
    (none_said Takes c.make_folder.new.self read (g.W.Write.contents c.args.answers.now) _)
