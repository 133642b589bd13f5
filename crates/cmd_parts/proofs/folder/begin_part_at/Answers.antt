use Rattle.std.proofs.Common.{◌≡◌, ℕ, List, Option, inr}
use Rattle.std.proofs.lemmas.Result.{on_err_weaker, on_ok_weaker}
use Rattle.cmd_parts.specs.Settle.{LeavesBegun, begun_part}
use Rattle.cmd_parts.proofs.SplitTrees.{made_at}
use Rattle.cmd_parts.proofs.folder.begin_part_at.Goals as goal

pub returns-clause-ok : goal.returns-clause-ok
returns-clause-ok g c = on_ok_weaker c.begin_part-begun.result (λ text.
    made_at (λ (size : ℕ) (before after : Option (List ℕ)). after ≡ begun_part c.args.root.now size before)
    (g.H.Files.tells_same c.args.host.now) (g.H.Files.tells_same c.ledger_at.new.host) c.args.path.now
    (g.H.Files.holds c.args.host.now) (g.H.Files.holds c.ledger_at.new.host) (g.H.Files.holds c.close.new.self)
    (g.H.Ledger.LedgerOut.text c.in_ok-ledger.ledger) (g.H.Ledger.LedgerOut.text c.begin_part-begun.new.ledger) c.in_ok-bytes.bytes
    c.in_ok-ledger.ensures.ok c.in_ok-bytes.ensures c.in_ok-ledger.ensures.others c.in_ok-ledger.ensures.tells text c.close.ensures.put) c.begin_part-begun.ensures.ok

pub returns-clause-leaves : goal.returns-clause-leaves
returns-clause-leaves g c = on_err_weaker c.begin_part-begun.result (λ left. inr
    (made_at (LeavesBegun c.args.root.now)
    (g.H.Files.tells_same c.args.host.now) (g.H.Files.tells_same c.ledger_at.new.host) c.args.path.now
    (g.H.Files.holds c.args.host.now) (g.H.Files.holds c.ledger_at.new.host) (g.H.Files.holds c.close.new.self)
    (g.H.Ledger.LedgerOut.text c.in_ok-ledger.ledger) (g.H.Ledger.LedgerOut.text c.begin_part-begun.new.ledger) c.in_ok-bytes.bytes
    c.in_ok-ledger.ensures.ok c.in_ok-bytes.ensures c.in_ok-ledger.ensures.others c.in_ok-ledger.ensures.tells left c.close.ensures.put)) c.begin_part-begun.ensures.leaves
