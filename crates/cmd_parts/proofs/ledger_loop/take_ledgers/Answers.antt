use Rattle.std.proofs.Common.{◌<◌, ℕ, [], length, take, subst, rules, arith}
use Rattle.std.proofs.lemmas.Grind.{common_steps}
use Rattle.std.specs.Io.KnownBytes.{Consumes, IsAtEnd}
use Rattle.cmd_parts.proofs.TakenLedgers.{nothing_read, piece_read, stream_taken, end_first, piece_first, read_first}
use Rattle.std.proofs.KnownBytes.{Keeps-refl}
use Rattle.cmd_lines.proofs.AnsweredPieces.{IfErr-passed}
use Rattle.cmd_parts.proofs.ledger_loop.take_ledgers.Goals as goal

pub loop-init : goal.loop-init
loop-init g c =
    nothing_read g.T.LedgerTaker.takes c.args.taker.now (g.R.Read.remaining c.args.input.now) (g.E.Write.contents c.args.faults.now) c.new-ledgers.result.before.items c.new-ledgers.result.line.items
    c.new-ledgers.ensures.before c.new-ledgers.ensures.line

pub returns-then-count-eq0-clause-ok : goal.returns-then-count-eq0-clause-ok
returns-then-count-eq0-clause-ok g c =
    let reads : Consumes (g.R.Read.remaining c.loop.input) (g.R.Read.remaining c.read.new.self) [] =
    subst (λ (n : ℕ). Consumes (g.R.Read.remaining c.loop.input) (g.R.Read.remaining c.read.new.self) (take n c.read.new.buf)) c.if-count-eq0.true c.in-Ok.ensures.bytes.0 in
    let room : 0 < length c.read.new.buf = first_of (search rules, grind (arith, common_steps)) in
    let ends : IsAtEnd (g.R.Read.remaining c.read.new.self) = c.in-Ok.ensures.bytes.1 c.if-count-eq0.true room in
    stream_taken g.T.LedgerTaker.takes c.args.taker.now (g.R.Read.remaining c.args.input.now) (g.E.Write.contents c.args.faults.now) (g.R.Read.remaining c.loop.input) c.loop.ledgers.before.items
    c.loop.ledgers.line.items c.loop.taker (g.E.Write.contents c.loop.faults) (g.R.Read.remaining c.read.new.self) c.end.new.taker (g.E.Write.contents c.end.new.faults) c.loop.invariant reads ends c.in_ok-end.ensures.ok

pub loop-preserved : goal.loop-preserved
loop-preserved g c =
    piece_read g.T.LedgerTaker.takes c.args.taker.now (g.R.Read.remaining c.args.input.now) (g.E.Write.contents c.args.faults.now) (g.R.Read.remaining c.loop.input) c.loop.ledgers.before.items
    c.loop.ledgers.line.items c.loop.taker (g.E.Write.contents c.loop.faults) (g.R.Read.remaining c.read.new.self) c.take.new.self.before.items c.take.new.self.line.items c.take.new.taker
    (g.E.Write.contents c.take.new.faults) (take c.in-Ok.count c.read.new.buf) c.loop.invariant c.in-Ok.ensures.bytes.0 c.in_ok-take.ensures.ok

pub returns-in-Err-clause-first : goal.returns-in-Err-clause-first
returns-in-Err-clause-first g c =
    read_first g.T.LedgerTaker.takes c.args.taker.now (g.R.Read.remaining c.args.input.now) (g.R.Read.remaining c.loop.input) (g.R.Read.remaining c.read.new.self) (g.E.Write.contents c.args.faults.now) c.loop.ledgers.before.items
    c.loop.ledgers.line.items c.loop.taker (g.E.Write.contents c.loop.faults) _ c.loop.invariant c.in-Err.ensures.bytes

pub returns-in_err-end-clause-first : goal.returns-in_err-end-clause-first
returns-in_err-end-clause-first g c =
    let reads : Consumes (g.R.Read.remaining c.loop.input) (g.R.Read.remaining c.read.new.self) [] =
    subst (λ (n : ℕ). Consumes (g.R.Read.remaining c.loop.input) (g.R.Read.remaining c.read.new.self) (take n c.read.new.buf)) c.if-count-eq0.true c.in-Ok.ensures.bytes.0 in
    IfErr-passed c.from_residual.result _ _ c.from_residual.ensures.1
    (end_first g.T.LedgerTaker.takes c.args.taker.now (g.R.Read.remaining c.args.input.now) (g.R.Read.remaining c.loop.input) (g.R.Read.remaining c.read.new.self) (g.E.Write.contents c.args.faults.now) c.loop.ledgers.before.items
    c.loop.ledgers.line.items c.loop.taker (g.E.Write.contents c.loop.faults) (g.E.Write.contents c.end.new.faults) _ c.loop.invariant reads c.in_err-end.ensures.first)

pub returns-in_err-take-clause-first : goal.returns-in_err-take-clause-first
returns-in_err-take-clause-first g c =
    IfErr-passed c.from_residual-in_err-take.result _ _ c.from_residual-in_err-take.ensures.1
    (piece_first g.T.LedgerTaker.takes c.args.taker.now (g.R.Read.remaining c.args.input.now) (g.R.Read.remaining c.loop.input) (g.R.Read.remaining c.read.new.self) (g.E.Write.contents c.args.faults.now) c.loop.ledgers.before.items
    c.loop.ledgers.line.items c.loop.taker (g.E.Write.contents c.loop.faults) (g.E.Write.contents c.take.new.faults) (take c.in-Ok.count c.read.new.buf) _ c.loop.invariant c.in-Ok.ensures.bytes.0 c.in_err-take.ensures.first)

pub returns-clause-first : goal.returns-clause-first
returns-clause-first g c =
    read_first g.T.LedgerTaker.takes c.args.taker.now (g.R.Read.remaining c.args.input.now) (g.R.Read.remaining c.loop.input) (g.R.Read.remaining c.loop.input) (g.E.Write.contents c.args.faults.now) c.loop.ledgers.before.items
    c.loop.ledgers.line.items c.loop.taker (g.E.Write.contents c.loop.faults) _ c.loop.invariant (Keeps-refl (g.R.Read.remaining c.loop.input))
