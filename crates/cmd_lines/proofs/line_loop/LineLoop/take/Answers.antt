use Rattle.std.proofs.Common.{◌++◌, inl, inr, refl, sym, subst}
use Rattle.text.specs.Terms.{BeginsWithLine, IsCut, with_more}
use Rattle.cmd_lines.specs.Lines.{HasTakenLines, TakesFirst}
use Rattle.cmd_lines.proofs.AnsweredPieces.{behind_err, first_taken}
use Rattle.cmd_lines.proofs.AnsweredLines.{whole_taken}
use Rattle.cmd_lines.proofs.line_loop.LineLoop.take.Goals as goal

pub lines-preserved : goal.lines-preserved
lines-preserved g c start text so =
    let (done, is, at) = c.lines.invariant start text so in
    let begins : BeginsWithLine c.lines.left.now c.cut.result.0.now c.in-Some.rest.now = subst (IsCut c.lines.left.now c.cut.result.0.now) c.in-Some.is c.cut.ensures.cut in
    let (x, rest, now) = whole_taken g.T.LineTaker.takes start (text ++ c.args.piece.now) done c.lines.left.now c.cut.result.0.now c.in-Some.rest.now
    c.lines.self c.lines.taker c.end_line.new.taker is begins at
    (subst (λ b. g.T.LineTaker.takes c.lines.taker (with_more b c.cut.result.0.now) c.end_line.new.taker) c.self.view_is
    (subst (λ k. g.T.LineTaker.takes c.lines.taker k c.end_line.new.taker) c.in_ok-take.ensures.ok c.in_ok-end_line.ensures.taken)) in
    (x, rest, subst (λ k. HasTakenLines g.T.LineTaker.takes start x k c.end_line.new.taker) (sym c.in_ok-end_line.ensures.begun) now)

pub returns-in_err-take-clause-first : goal.returns-in_err-take-clause-first
returns-in_err-take-clause-first g c =
    behind_err c.from_residual.result (TakesFirst g.T.LineTaker.takes g.T.LineTaker.leaves c.args.piece.now c.args.self.now c.args.taker.now c.lines.taker) (λ start text so.
    let (done, is, has) = c.lines.invariant start text so in
    first_taken g.T.LineTaker.takes g.T.LineTaker.leaves start (text ++ c.args.piece.now) done c.lines.left.now c.lines.self c.lines.taker c.lines.taker is has (inl refl))

pub returns-in_err-end_line-clause-first : goal.returns-in_err-end_line-clause-first
returns-in_err-end_line-clause-first g c =
    behind_err c.from_residual-in_err-end_line.result (TakesFirst g.T.LineTaker.takes g.T.LineTaker.leaves c.args.piece.now c.args.self.now c.args.taker.now c.end_line.new.taker) (λ start text so.
    let (done, is, has) = c.lines.invariant start text so in
    first_taken g.T.LineTaker.takes g.T.LineTaker.leaves start (text ++ c.args.piece.now) done c.lines.left.now c.lines.self c.lines.taker c.end_line.new.taker is has (inr c.in_err-end_line.ensures.left))
