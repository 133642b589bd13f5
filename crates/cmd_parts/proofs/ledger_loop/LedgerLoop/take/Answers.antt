use Rattle.std.proofs.Common.{◌≡◌, ◌++◌, ◌∷◌, [], List, ℕ, ap, inl, refl, sym, ◌∙◌, subst}
use Rattle.text.specs.Terms.{BeginsWithLine, IsCut}
use Rattle.cmd_parts.specs.inside.Joining.{HasTaken}
use Rattle.cmd_parts.proofs.TakenLedgers.{rest_taken, whole_line, first_taken, whole_line_taken}
use Rattle.cmd_lines.proofs.AnsweredPieces.{IfErr-from_is_err_and, IfErr-passed}
use Rattle.cmd_parts.proofs.ledger_loop.LedgerLoop.take.Goals as goal

pub returns-in_default-clause-ok : goal.returns-in_default-clause-ok
returns-in_default-clause-ok g c start begun text so =
    let (done, is, has) = c.lines.invariant start begun text so in
    rest_taken g.T.LedgerTaker.takes start begun (text ++ c.args.piece.now) done c.lines.left.now c.cut.result.0.now c.lines.self.before.items c.lines.self.line.items c.extend_from_slice.new.self.items
    c.lines.taker (g.E.Write.contents c.lines.faults) is (subst (IsCut c.lines.left.now c.cut.result.0.now) c.in_default.is c.cut.ensures.cut) has c.in_ok-extend_from_slice.ensures.items

pub lines-preserved : goal.lines-preserved
lines-preserved g c start begun text so =
    let (done, is, has) = c.lines.invariant start begun text so in
    let begins : BeginsWithLine c.lines.left.now c.cut.result.0.now c.in-Some.rest.now = subst (IsCut c.lines.left.now c.cut.result.0.now) c.in-Some.is c.cut.ensures.cut in
    let before = c.cut_before_line.new.self.before.items in
    let line = c.extend_from_slice.new.self.items in
    let kept = c.keep_line.new.self.before.items in
    let now = c.cut_before_line.new.taker in
    let keeps : kept ≡ (before ++ line) ++ (10 ∷ []) = c.in_ok-keep_line.ensures.before ∙ ap (λ (l : List ℕ). (before ++ l) ++ (10 ∷ [])) c.cut_before_line.ensures.line in
    let (x, rest, taken) = whole_line g.T.LedgerTaker.takes start begun (text ++ c.args.piece.now) done c.lines.left.now c.cut.result.0.now c.in-Some.rest.now c.lines.self.before.items c.lines.self.line.items line
    c.lines.taker (g.E.Write.contents c.lines.faults) before kept now (g.E.Write.contents c.cut_before_line.new.faults) is begins has c.in_ok-extend_from_slice.ensures.items c.in_ok-cut_before_line.ensures.ok keeps in
    (x, rest, subst (λ (l : List ℕ). HasTaken g.T.LedgerTaker.takes start begun x kept l now (g.E.Write.contents c.cut_before_line.new.faults)) (sym c.in_ok-keep_line.ensures.line) taken)

pub returns-in_err-extend_from_slice-clause-first : goal.returns-in_err-extend_from_slice-clause-first
returns-in_err-extend_from_slice-clause-first g c =
    IfErr-from_is_err_and c.from_residual.result _ _ c.from_residual.ensures.1 (λ e is start begun text so.
    let (done, all, has) = c.lines.invariant start begun text so in
    first_taken g.T.LedgerTaker.takes start begun (text ++ c.args.piece.now) done c.lines.left.now c.lines.self.before.items c.lines.self.line.items c.lines.taker (g.E.Write.contents c.lines.faults) (g.E.Write.contents c.lines.faults) e all has (inl refl))

pub returns-in_err-cut_before_line-clause-first : goal.returns-in_err-cut_before_line-clause-first
returns-in_err-cut_before_line-clause-first g c =
    IfErr-passed c.from_residual-in_err-cut_before_line.result _ _ c.from_residual-in_err-cut_before_line.ensures.1 (λ start begun text so.
    let (done, all, has) = c.lines.invariant start begun text so in
    first_taken g.T.LedgerTaker.takes start begun (text ++ c.args.piece.now) done c.lines.left.now c.lines.self.before.items c.lines.self.line.items c.lines.taker (g.E.Write.contents c.lines.faults) (g.E.Write.contents c.cut_before_line.new.faults) _ all has
    c.in_err-cut_before_line.ensures.err)

pub returns-in_err-keep_line-clause-first : goal.returns-in_err-keep_line-clause-first
returns-in_err-keep_line-clause-first g c =
    IfErr-from_is_err_and c.from_residual-in_err-keep_line.result _ _ c.from_residual-in_err-keep_line.ensures.1 (λ e is start begun text so.
    let (done, all, has) = c.lines.invariant start begun text so in
    let begins : BeginsWithLine c.lines.left.now c.cut.result.0.now c.in-Some.rest.now = subst (IsCut c.lines.left.now c.cut.result.0.now) c.in-Some.is c.cut.ensures.cut in
    whole_line_taken g.T.LedgerTaker.takes start begun (text ++ c.args.piece.now) done c.lines.left.now c.cut.result.0.now c.in-Some.rest.now c.lines.self.before.items c.lines.self.line.items c.extend_from_slice.new.self.items
    c.lines.taker (g.E.Write.contents c.lines.faults) c.cut_before_line.new.self.before.items c.cut_before_line.new.taker (g.E.Write.contents c.cut_before_line.new.faults) e all begins has c.in_ok-extend_from_slice.ensures.items c.in_ok-cut_before_line.ensures.ok)
