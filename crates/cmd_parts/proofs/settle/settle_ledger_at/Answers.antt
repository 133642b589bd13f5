use Rattle.cmd_ledgers.specs.Terms.{AtSomeTime}
use Rattle.cmd_parts.proofs.SettledTables.{settled_at}
use Rattle.cmd_parts.proofs.settle.settle_ledger_at.Goals as goal

pub returns-clause-settles : goal.returns-clause-settles
returns-clause-settles g c =
    let path = c.args.file.path.now in
    settled_at (AtSomeTime _ g.D.Decider.answers) (g.H.Files.locks path) (g.H.Files.tells_same c.args.host.now) (g.H.Files.tells_same c.ledger_at.new.host) path
    (g.H.Files.holds c.args.host.now) (g.H.Files.holds c.ledger_at.new.host) (g.H.Files.holds c.close.new.self) (g.H.Reader.Read.remaining c.in_ok-held.held.reader) c.in_ok-held.held.length
    (g.H.Ledger.LedgerOut.text c.in_ok-ledger.ledger) (g.H.Ledger.LedgerOut.text c.settle_ledger-settled.new.ledger) (g.W.Write.contents c.args.answers.now) (g.W.Write.contents c.settle_ledger-settled.new.answers)
    c.in_ok-_lock._lock c.settle_ledger-settled.result c.in_ok-_lock.ensures c.in_ok-held.ensures c.in_ok-ledger.ensures.ok c.in_ok-ledger.ensures.others c.in_ok-ledger.ensures.tells c.close.ensures.put
    c.settle_ledger-settled.ensures.settles c.settle_ledger-settled.ensures.silent c.settle_ledger-settled.ensures.leaves
