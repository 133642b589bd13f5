use Rattle.std.proofs.Common.{◌≡◌, ℕ, ◌-◌, ◌≤◌, ◌<◌, ap, length, take, arith, rules}
use Rattle.std.proofs.lemmas.Grind.{common_steps}
use Rattle.cmd_page.proofs.SummedLedgers.{feeding_goes_on, feeding_stops}
use Rattle.cmd_page.proofs.sums.feed_all.Goals as goal

pub pieces-preserved : goal.pieces-preserved
pieces-preserved g c =
    let within : c.in-Ok.count ≤ c.pieces.left = first_of (search rules, grind (arith, common_steps)) in
    feeding_goes_on c.args.loader.now c.pieces.loader c.feed_both.new.loader c.args.hasher.now c.pieces.hasher c.feed_both.new.hasher
    (g.R.Read.remaining c.args.from.now) (g.R.Read.remaining c.pieces.from) (g.R.Read.remaining c.read.new.self) c.args.limit c.pieces.left (c.pieces.left - c.in-Ok.count) (take c.in-Ok.count c.read.new.buf)
    c.pieces.invariant c.in-Ok.ensures.bytes.0 c.in_ok-feed_both.ensures (omega (arith, c.in-Ok.ensures.bound.1, within))

pub returns-then-count-eq0 : goal.returns-then-count-eq0
returns-then-count-eq0 g c =
    let none : c.in-Ok.count ≡ 0 = c.if-count-eq0.true in
    let room : 0 < length c.read.new.buf = first_of (search rules, grind (arith, common_steps)) in
    feeding_stops c.args.loader.now c.pieces.loader c.args.hasher.now c.pieces.hasher (g.R.Read.remaining c.args.from.now) (g.R.Read.remaining c.pieces.from) (g.R.Read.remaining c.read.new.self)
    c.args.limit c.pieces.left (take c.in-Ok.count c.read.new.buf) c.pieces.invariant c.in-Ok.ensures.bytes.0 (ap (λ (n : ℕ). take n c.read.new.buf) none) (c.in-Ok.ensures.bytes.1 none room)
