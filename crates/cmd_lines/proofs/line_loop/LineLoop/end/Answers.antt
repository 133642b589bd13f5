use Rattle.std.proofs.Common.{◌≡◌, true, false, sym, ◌∙◌, subst}
use Rattle.std.proofs.lemmas.Result.{on_ok_weaker}
use Rattle.cmd_lines.proofs.AnsweredLines.{nothing_begun, last_taken}
use Rattle.cmd_lines.specs.Lines.{HasTakenLines}
use Rattle.cmd_lines.proofs.line_loop.LineLoop.end.Goals as goal

pub returns-then-is_begun-clause-ok : goal.returns-then-is_begun-clause-ok
returns-then-is_begun-clause-ok g c = on_ok_weaker c.end_line.result (λ takes start text so.
    last_taken g.T.LineTaker.takes start text c.args.self.now c.args.taker.now c.end_line.new.taker so
    (λ none. absurd (let clash : true ≡ false = sym c.if-is_begun.true ∙ c.is_begun.ensures.1 none in cc)) takes) c.end_line.ensures.taken

pub returns-else-is_begun-clause-ok : goal.returns-else-is_begun-clause-ok
returns-else-is_begun-clause-ok g c start text so =
    nothing_begun g.T.LineTaker.takes start text c.args.taker.now
    (subst (λ k. HasTakenLines g.T.LineTaker.takes start text k c.args.taker.now) (c.is_begun.ensures.0 c.if-is_begun.false) so)
