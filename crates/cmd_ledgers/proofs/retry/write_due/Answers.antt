use Rattle.std.proofs.Common.{◌≡◌, [], ℕ, List, sym}
use Rattle.wire.specs.Terms.{grown}
use Rattle.cmd_ledgers.proofs.RetriedLedgers.{grown_none, whole_written}
use Rattle.cmd_ledgers.proofs.TreeReports.{on_ok}
use Rattle.cmd_ledgers.proofs.retry.write_due.Goals as goal

pub returns-then-is_piece-clause-whole : goal.returns-then-is_piece-clause-whole
returns-then-is_piece-clause-whole g c =
    let text = g.L.LedgerOut.text c.args.ledger.now in
    let new = g.L.LedgerOut.text c.write_lines.new.ledger in
    on_ok c.write_lines.result (λ (wrote : (new ≡ grown text c.args.lines.now.items) × (c.write_lines.new.lines.items ≡ [])).
    whole_written text new c.args.lines.now.items c.write_lines.new.lines.items wrote.0 wrote.1) c.write_lines.ensures.ok

pub returns-then-is_piece-clause-grown : goal.returns-then-is_piece-clause-grown
returns-then-is_piece-clause-grown g c =
    let text = g.L.LedgerOut.text c.args.ledger.now in
    let new = g.L.LedgerOut.text c.write_lines.new.ledger in
    on_ok c.write_lines.result (λ (wrote : (new ≡ grown text c.args.lines.now.items) × (c.write_lines.new.lines.items ≡ [])). (c.args.lines.now.items, wrote.0)) c.write_lines.ensures.ok

pub returns-else-is_piece-clause-grown : goal.returns-else-is_piece-clause-grown
returns-else-is_piece-clause-grown g c = ([], sym (grown_none (g.L.LedgerOut.text c.args.ledger.now)))
