use Rattle.cmd_ledgers.specs.Retry.{AtSomeTime}
use Rattle.cmd_ledgers.proofs.ReadLedgers.{retried_at}
use Rattle.cmd_ledgers.proofs.retry.retry_at.Goals as goal

pub returns-clause-retries : goal.returns-clause-retries
returns-clause-retries g c =
    let path = c.args.file.path.now in
    retried_at (AtSomeTime _ g.D.Decider.answers) (g.H.Files.locks path) (g.H.Files.tells_same c.args.host.now) (g.H.Files.tells_same c.ledger_at.new.host) path
    (g.H.Files.holds c.args.host.now) (g.H.Files.holds c.ledger_at.new.host) (g.H.Files.holds c.close.new.self) (g.H.Reader.Read.remaining c.in_ok-held.held.reader) c.in_ok-held.held.length
    (g.H.Ledger.LedgerOut.text c.in_ok-ledger.ledger) (g.H.Ledger.LedgerOut.text c.retry_ledger-retried.new.ledger) (g.W.Write.contents c.args.answers.now) (g.W.Write.contents c.retry_ledger-retried.new.answers)
    c.in_ok-_lock._lock c.retry_ledger-retried.result c.in_ok-_lock.ensures c.in_ok-held.ensures c.in_ok-ledger.ensures.ok c.in_ok-ledger.ensures.others c.in_ok-ledger.ensures.tells c.close.ensures.put
    c.retry_ledger-retried.ensures.retries c.retry_ledger-retried.ensures.silent c.retry_ledger-retried.ensures.leaves
