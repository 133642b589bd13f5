use Rattle.std.proofs.Common.{◌≡◌, ◌∙◌, sym, subst}
use Rattle.std.specs.Io.KnownBytes.{Appends}
use Rattle.cmd_options.specs.declared.ended.Outcome.{Outcome}
use Rattle.cmd_lines.specs.Stream.{TakesStream}
use Rattle.cmd_lines.proofs.AnsweredPieces.{stream_said, IfErr-from_is_err_and, last_but, waits_cut, waits_written}
use Rattle.cmd_lines.proofs.said.finish.Goals as goal

pub returns-clause-ok : goal.returns-clause-ok
returns-clause-ok g c = λ start read new_read held whole so.
    let told = stream_said g.S.Sayer.takes start read new_read held (g.W.Write.contents c.args.says.now) (g.W.Write.contents c.write.new.says)
    c.args.lines c.args.saying c.end-ended.new.taker whole so c.requires c.in_ok-ended.ensures.ok c.in_ok-write.ensures.ok in
    subst (λ (o : Outcome). TakesStream g.S.Sayer.takes start c.write.new.self.sayer read new_read held (g.W.Write.contents c.write.new.says) o) (sym c.write.ensures.outcome)
    (subst (λ (s : g.row.S.Denot). TakesStream g.S.Sayer.takes start s read new_read held (g.W.Write.contents c.write.new.says) c.end-ended.new.taker.outcome) (sym c.write.ensures.sayer) told)

pub returns-in_err-write-clause-first : goal.returns-in_err-write-clause-first
returns-in_err-write-clause-first g c =
    IfErr-from_is_err_and c.from_residual.result _ _ c.from_residual.ensures.1 (λ e is start read new_read held whole so.
    let but = last_but g.S.Sayer.takes c.end-ended.result start read new_read held (g.W.Write.contents c.args.says.now) c.args.lines c.args.saying c.end-ended.new.taker whole so c.requires c.end-ended.ensures.ok c.end-ended.ensures.first in
    waits_cut g.S.Sayer.takes start read new_read held (g.W.Write.contents c.args.says.now) (g.W.Write.contents c.write.new.says) c.end-ended.new.taker.waits.items e but (is ∙ c.in_err-write.ensures.err) c.in_err-write.ensures.cut)

pub returns-in_err-ended-clause-first : goal.returns-in_err-ended-clause-first
returns-in_err-ended-clause-first g c =
    IfErr-from_is_err_and c.from_residual-in_err-ended.result _ _ c.from_residual-in_err-ended.ensures.1 (λ e is start read new_read held whole so.
    let but = last_but g.S.Sayer.takes c.end-ended.result start read new_read held (g.W.Write.contents c.args.says.now) c.args.lines c.args.saying c.end-ended.new.taker whole so c.requires c.end-ended.ensures.ok c.end-ended.ensures.first in
    waits_written g.S.Sayer.takes start read new_read held (g.W.Write.contents c.args.says.now) (g.W.Write.contents c.write.new.says) c.end-ended.new.taker.waits.items e but c.in_ok-write.ensures.ok)
