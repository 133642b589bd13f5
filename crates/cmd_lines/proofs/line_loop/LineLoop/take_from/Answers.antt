use Rattle.std.proofs.Common.{◌-◌, ◌≤◌, take, arith, rules}
use Rattle.std.proofs.lemmas.Grind.{common_steps}
use Rattle.cmd_lines.proofs.AnsweredLines.{nothing_read, piece_read}
use Rattle.cmd_lines.proofs.line_loop.LineLoop.take_from.Goals as goal

pub pieces-init : goal.pieces-init
pieces-init g c = nothing_read g.T.LineTaker.takes c.args.self.now c.args.taker.now (g.R.Read.remaining c.args.from.now) c.args.limit

pub pieces-preserved : goal.pieces-preserved
pieces-preserved g c =
    let within : c.in-Ok.count ≤ c.pieces.left = first_of (search rules, grind (arith, common_steps)) in
    piece_read g.T.LineTaker.takes c.args.self.now c.args.taker.now (g.R.Read.remaining c.args.from.now) c.args.limit c.pieces.self c.pieces.taker (g.R.Read.remaining c.pieces.from) c.pieces.left
    c.take.new.self c.take.new.taker (g.R.Read.remaining c.read.new.self) (c.pieces.left - c.in-Ok.count) (take c.in-Ok.count c.read.new.buf) c.pieces.invariant c.in-Ok.ensures.bytes.0 c.in-Ok-take.ensures.ok
    (omega (arith, c.in-Ok.ensures.bound.1, within))
