use Rattle.std.specs.Borrow.{Bor}
use Rattle.std.proofs.Common.{ℕ, List}
use Rattle.cmd_show.specs.Drawn.{DrawsFiles, DrawsFirstLines}
use Rattle.cmd_show.proofs.PictureLaws.{told_files, told_picture}
use Rattle.cmd_show.proofs.draw.cmd_draw.Goals as goal

pub returns-clause-first : goal.returns-clause-first
returns-clause-first g c =
    told_picture _ (g.R.Read.remaining c.args.input.now) (g.R.Read.remaining c.draw_asked.new.input) (g.W.Write.contents c.args.answers.now) (g.W.Write.contents c.draw_asked.new.answers)
    (g.E.Write.contents c.args.faults.now) (g.E.Write.contents c.draw_asked.new.faults) _ c.draw_asked.result _ c.draw_asked.ensures.first c.draw_asked.ensures.first_picks c.draw_asked.ensures.silent c.draw_asked.ensures.err c.told.ensures

pub returns-clause-files : goal.returns-clause-files
returns-clause-files g c =
    told_files _ (λ (folder : Bor (List ℕ)). DrawsFiles g.H.Files.tells_same g.H.Files.holds folder.now c.args.host.now (g.R.Read.remaining c.args.input.now) (g.R.Read.remaining c.draw_asked.new.input)
    (g.W.Write.contents c.args.answers.now) (g.W.Write.contents c.draw_asked.new.answers))
    (λ (folder : Bor (List ℕ)). DrawsFirstLines g.H.Files.tells_same g.H.Files.holds folder.now c.args.host.now (g.R.Read.remaining c.args.input.now) (g.R.Read.remaining c.draw_asked.new.input))
    _ _ c.draw_asked.result _ _ _ c.draw_asked.ensures.files c.draw_asked.ensures.first_files c.draw_asked.ensures.err c.told.ensures
