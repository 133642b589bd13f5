use Rattle.std.proofs.Common.{◌≡◌, subst, take}
use Rattle.machine_text.specs.Terms.{Packed}
use Rattle.ledger.specs.Terms.{HasHeader, same_table}
use Rattle.cmd_ledgers.specs.LedgerReport.{BeginsWithRoot}
use Rattle.cmd_ledgers.proofs.ReadLedgers.{if_loaded, left_behind, no_difference}
use Rattle.cmd_ledgers.proofs.reading.load_of.Goals as goal

pub load_behind-requires-clause-header : goal.load_behind-requires-clause-header
unfolding same_table
load_behind-requires-clause-header g c =
    let begins = c.in_ok-found.ensures.ok in
    let same : c.in_ok-found.found ≡ c.args.root = no_difference c.in_ok-found.found c.args.root c.ne.result c.ne.ensures c.if-ne.false in
    (begins.1.rest, subst (λ (p : Packed). HasHeader (take c.in_ok-found.len c.begin_reading.new.buffer) p begins.1.rest) same begins.1.header)

pub returns : goal.returns
unfolding same_table
returns g c =
    let begins = c.in_ok-found.ensures.ok in
    let same : c.in_ok-found.found ≡ c.args.root = no_difference c.in_ok-found.found c.args.root c.ne.result c.ne.ensures c.if-ne.false in
    let first = take c.in_ok-found.len c.begin_reading.new.buffer in
    if_loaded (g.R.Read.remaining c.args.from.now) (g.R.Read.remaining c.begin_reading.new.from) c.args.limit _ first c.args.root c.load_behind.result
    (subst (λ (p : Packed). BeginsWithRoot (g.R.Read.remaining c.args.from.now) (g.R.Read.remaining c.begin_reading.new.from) c.args.limit first p) same begins.1)
    (left_behind c.args.limit c.in_ok-found.len c.begin_reading.new.buffer begins.0) c.load_behind.ensures.ok
