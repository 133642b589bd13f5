use Rattle.std.proofs.Common.{◌≡◌, ◌∙◌, ◌<◌, ℕ, [], length, sym, subst, take, rules, arith}
use Rattle.std.proofs.lemmas.Grind.{common_steps}
use Rattle.std.proofs.lemmas.Result.{IfErr-weaker, IfOk-weaker}
use Rattle.std.specs.Io.KnownBytes.{Consumes, IsAtEnd}
use Rattle.cmd_options.specs.declared.ended.Outcome.{Outcome}
use Rattle.cmd_lines.specs.inside.{IsSaid}
use Rattle.cmd_lines.proofs.AnsweredPieces.{IfErr-from_is_err_and, Waits, nothing_more, piece_but, piece_first, said_first, waits_cut, waits_written, Behind, piece_said}
use Rattle.cmd_lines.proofs.said.say_lines.Goals as goal

pub loop-preserved : goal.loop-preserved
loop-preserved g c =
    let said = piece_said g.S.Sayer.takes c.args.sayer (g.R.Read.remaining c.args.input.now) (g.R.Read.remaining c.loop.input) (g.R.Read.remaining c.read.new.self)
    (g.W.Write.contents c.args.says.now) (g.W.Write.contents c.loop.says) (g.W.Write.contents c.write.new.says) c.loop.lines c.take-taken.new.self c.loop.saying c.take-taken.new.taker
    (take c.in_ok-count.count c.read.new.buf) c.loop.invariant.0 c.loop.invariant.1 c.in_ok-count.ensures.bytes.0 c.in_ok-taken.ensures.ok c.in_ok-write.ensures.ok in (
      subst (λ (o : Outcome). IsSaid g.S.Sayer.takes c.args.sayer (g.R.Read.remaining c.args.input.now) (g.R.Read.remaining c.read.new.self) (g.W.Write.contents c.args.says.now) (g.W.Write.contents c.write.new.says) c.take-taken.new.self o c.write.new.self.sayer) (sym c.write.ensures.outcome)
          (subst (λ (s : g.row.S.Denot). IsSaid g.S.Sayer.takes c.args.sayer (g.R.Read.remaining c.args.input.now) (g.R.Read.remaining c.read.new.self) (g.W.Write.contents c.args.says.now) (g.W.Write.contents c.write.new.says) c.take-taken.new.self c.take-taken.new.taker.outcome s) (sym c.write.ensures.sayer) said),
      c.write.ensures.none,
    )

pub returns-in_err-count-clause-first : goal.returns-in_err-count-clause-first
returns-in_err-count-clause-first g c =
    IfErr-from_is_err_and c.from_residual.result _ _ c.from_residual.ensures.1 (λ e is.
    said_first g.S.Sayer.takes c.args.sayer (g.R.Read.remaining c.args.input.now) (g.R.Read.remaining c.loop.input) (g.R.Read.remaining c.read.new.self) (g.W.Write.contents c.args.says.now) (g.W.Write.contents c.loop.says)
    c.loop.lines c.loop.saying.outcome c.loop.saying.sayer e c.loop.invariant.0 c.in_err-count.ensures.bytes)

pub returns-in_err-write-clause-first : goal.returns-in_err-write-clause-first
returns-in_err-write-clause-first g c =
    IfErr-from_is_err_and c.from_residual-in_err-write.result _ _ c.from_residual-in_err-write.ensures.1 (λ e is.
    let first = piece_first (Behind g.S.Sayer.takes) (Waits g.S.Sayer.takes) c.take-taken.result (take c.in_ok-count.count c.read.new.buf) c.loop.lines c.take-taken.new.self c.loop.saying c.take-taken.new.taker c.take-taken.ensures.ok c.take-taken.ensures.first in
    let but = piece_but g.S.Sayer.takes c.args.sayer (g.R.Read.remaining c.args.input.now) (g.R.Read.remaining c.loop.input) (g.R.Read.remaining c.read.new.self) (g.W.Write.contents c.args.says.now) (g.W.Write.contents c.loop.says)
    c.loop.lines c.loop.saying c.take-taken.new.taker (take c.in_ok-count.count c.read.new.buf) c.loop.invariant.0 c.loop.invariant.1 c.in_ok-count.ensures.bytes.0 first in
    waits_cut g.S.Sayer.takes c.args.sayer (g.R.Read.remaining c.args.input.now) (g.R.Read.remaining c.read.new.self) (g.W.Write.contents c.args.says.now) (g.W.Write.contents c.loop.says) (g.W.Write.contents c.write.new.says)
    c.take-taken.new.taker.waits.items e but (is ∙ c.in_err-write.ensures.err) c.in_err-write.ensures.cut)

pub returns-in_err-taken-clause-first : goal.returns-in_err-taken-clause-first
returns-in_err-taken-clause-first g c =
    IfErr-from_is_err_and c.from_residual-in_err-taken.result _ _ c.from_residual-in_err-taken.ensures.1 (λ e is.
    let but = piece_but g.S.Sayer.takes c.args.sayer (g.R.Read.remaining c.args.input.now) (g.R.Read.remaining c.loop.input) (g.R.Read.remaining c.read.new.self) (g.W.Write.contents c.args.says.now) (g.W.Write.contents c.loop.says)
    c.loop.lines c.loop.saying c.take-taken.new.taker (take c.in_ok-count.count c.read.new.buf) c.loop.invariant.0 c.loop.invariant.1 c.in_ok-count.ensures.bytes.0 c.in_err-taken.ensures.first in
    waits_written g.S.Sayer.takes c.args.sayer (g.R.Read.remaining c.args.input.now) (g.R.Read.remaining c.read.new.self) (g.W.Write.contents c.args.says.now) (g.W.Write.contents c.loop.says) (g.W.Write.contents c.write.new.says)
    c.take-taken.new.taker.waits.items e but c.in_ok-write.ensures.ok)

pub returns-then-count-eq0-clause-ok : goal.returns-then-count-eq0-clause-ok
returns-then-count-eq0-clause-ok g c =
    let room : 0 < length c.read.new.buf = first_of (search rules, grind (arith, common_steps)) in
    let whole : IsAtEnd (g.R.Read.remaining c.read.new.self) = c.in_ok-count.ensures.bytes.1 c.if-count-eq0.true room in
    let reads : Consumes (g.R.Read.remaining c.loop.input) (g.R.Read.remaining c.read.new.self) [] =
    subst (λ (n : ℕ). Consumes (g.R.Read.remaining c.loop.input) (g.R.Read.remaining c.read.new.self) (take n c.read.new.buf)) c.if-count-eq0.true c.in_ok-count.ensures.bytes.0 in
    IfOk-weaker c.finish.result _ _ (λ said so. so c.args.sayer (g.R.Read.remaining c.args.input.now) (g.R.Read.remaining c.read.new.self) (g.W.Write.contents c.args.says.now) whole
    (nothing_more g.S.Sayer.takes c.args.sayer (g.R.Read.remaining c.args.input.now) (g.R.Read.remaining c.loop.input) (g.R.Read.remaining c.read.new.self) (g.W.Write.contents c.args.says.now) (g.W.Write.contents c.loop.says)
    c.loop.lines c.loop.saying.outcome c.loop.saying.sayer c.loop.invariant.0 reads)) c.finish.ensures.ok

pub returns-then-count-eq0-clause-first : goal.returns-then-count-eq0-clause-first
returns-then-count-eq0-clause-first g c =
    let room : 0 < length c.read.new.buf = first_of (search rules, grind (arith, common_steps)) in
    let whole : IsAtEnd (g.R.Read.remaining c.read.new.self) = c.in_ok-count.ensures.bytes.1 c.if-count-eq0.true room in
    let reads : Consumes (g.R.Read.remaining c.loop.input) (g.R.Read.remaining c.read.new.self) [] =
    subst (λ (n : ℕ). Consumes (g.R.Read.remaining c.loop.input) (g.R.Read.remaining c.read.new.self) (take n c.read.new.buf)) c.if-count-eq0.true c.in_ok-count.ensures.bytes.0 in
    IfErr-weaker c.finish.result _ _ (λ e so. so c.args.sayer (g.R.Read.remaining c.args.input.now) (g.R.Read.remaining c.read.new.self) (g.W.Write.contents c.args.says.now) whole
    (nothing_more g.S.Sayer.takes c.args.sayer (g.R.Read.remaining c.args.input.now) (g.R.Read.remaining c.loop.input) (g.R.Read.remaining c.read.new.self) (g.W.Write.contents c.args.says.now) (g.W.Write.contents c.loop.says)
    c.loop.lines c.loop.saying.outcome c.loop.saying.sayer c.loop.invariant.0 reads)) c.finish.ensures.first
