use Rattle.std.proofs.Common.{◌-◌, ◌≤◌, take, arith, rules}
use Rattle.std.proofs.lemmas.Grind.{common_steps}
use Rattle.ledger.proofs.StageLaws.{begins, goes_on, stops}
use Rattle.ledger.proofs.loading.Loader.feed_from.Goals as goal

pub pieces-init : goal.pieces-init
pieces-init g c = begins c.args.self.now (g.R.Read.remaining c.args.from.now) c.args.limit

pub pieces-preserved : goal.pieces-preserved
pieces-preserved g c =
    let within : c.in-Ok.count ≤ c.pieces.left = first_of (search rules, grind (arith, common_steps)) in
    goes_on c.args.self.now (g.R.Read.remaining c.args.from.now) c.args.limit c.pieces.self (g.R.Read.remaining c.pieces.from) c.pieces.left c.pieces.invariant c.feed.new.self
    (g.R.Read.remaining c.read.new.self) (take c.in-Ok.count c.read.new.buf) c.in-Ok.ensures.bytes.0 (c.pieces.left - c.in-Ok.count) c.in-Ok-feed.ensures.ok
    (omega (arith, c.in-Ok.ensures.bound.1, within))

pub returns-in-Err-feed-clause-stopped : goal.returns-in-Err-feed-clause-stopped
returns-in-Err-feed-clause-stopped g c =
    let within : c.in-Ok.count ≤ c.pieces.left = first_of (search rules, grind (arith, common_steps)) in
    stops c.args.self.now (g.R.Read.remaining c.args.from.now) c.args.limit c.pieces.self (g.R.Read.remaining c.pieces.from) c.pieces.left c.pieces.invariant c.feed.new.self
    (g.R.Read.remaining c.read.new.self) (take c.in-Ok.count c.read.new.buf) c.in-Ok.ensures.bytes.0 c.in-Err-feed.field-0 c.in-Err-feed.ensures.stopped
    (omega (arith, c.in-Ok.ensures.bound.1, within))
