use Rattle.std.proofs.Common.{rules, ◌≡◌, ℕ, List, Option, inr, subst}
use Rattle.std.specs.Prelude.{false, Ok}
use Rattle.std.proofs.lemmas.Result.{on_err_weaker}
use Rattle.machine_text.specs.Terms.{text_of}
use Rattle.cmd_ledgers.specs.Terms.{AtSomeTime}
use Rattle.cmd_ledgers.proofs.ReadLedgers.{gone_on}
use Rattle.cmd_ledgers.proofs.TreeReports.{if_ok}
use Rattle.cmd_parts.specs.AtPaths.{GrowsAt, LeavesTrunkAt, SeesAt}
use Rattle.cmd_parts.specs.Settle.{GrowsTrunk, LeavesTrunk, path_within}
use Rattle.cmd_parts.proofs.split.grown_trunk.Goals as goal

pub returns-clause-grows : goal.returns-clause-grows
returns-clause-grows g c =
    let A = AtSomeTime _ g.D.Decider.answers in
    let n = c.args.splitting.now.states in
    let limit = c.from-limit.result in
    let folder = c.args.splitting.now.folder.now in
    let path = c.args.path.now in
    let tells = g.H.Files.tells_same c.args.host.now in
    let old = g.H.Files.holds c.args.host.now in
    let opened = g.H.Files.holds c.ledger_at.new.host in
    let new = g.H.Files.holds c.close.new.self in
    let is : limit ≡ c.args.splitting.now.filled = search rules in
    if_ok c.grow_trunk-grown.result (λ board grows. subst (λ (l : ℕ). GrowsAt A tells n l folder path old new board) is (record {
      opened = opened;
      is_opened = c.in_ok-ledger.ensures.others;
      goes_on = gone_on (λ (has : Option (List ℕ)) (size : ℕ) (before after : Option (List ℕ)). GrowsTrunk (λ t. SeesAt (opened (path_within folder (text_of t))) (Ok false)) A n limit has size before board after)
          tells (g.H.Files.tells_same c.ledger_at.new.host) path old opened new (g.H.Reader.Read.remaining c.in_ok-held.held.reader) c.in_ok-held.held.length
          (g.H.Ledger.LedgerOut.text c.in_ok-ledger.ledger) (g.H.Ledger.LedgerOut.text c.grow_trunk-grown.new.ledger)
          c.in_ok-held.ensures c.in_ok-ledger.ensures.ok c.in_ok-ledger.ensures.others c.in_ok-ledger.ensures.tells c.close.ensures.put grows;
    })) c.grow_trunk-grown.ensures.grows

pub returns-clause-leaves : goal.returns-clause-leaves
returns-clause-leaves g c =
    let A = AtSomeTime _ g.D.Decider.answers in
    let n = c.args.splitting.now.states in
    let limit = c.from-limit.result in
    let folder = c.args.splitting.now.folder.now in
    let path = c.args.path.now in
    let tells = g.H.Files.tells_same c.args.host.now in
    let old = g.H.Files.holds c.args.host.now in
    let opened = g.H.Files.holds c.ledger_at.new.host in
    let new = g.H.Files.holds c.close.new.self in
    let is : limit ≡ c.args.splitting.now.filled = search rules in
    on_err_weaker c.grow_trunk-grown.result (λ leaves. subst (λ (l : ℕ). LeavesTrunkAt A tells n l folder path old new) is (inr (record {
      opened = opened;
      is_opened = c.in_ok-ledger.ensures.others;
      goes_on = gone_on (LeavesTrunk (λ t. SeesAt (opened (path_within folder (text_of t))) (Ok false)) A n limit)
          tells (g.H.Files.tells_same c.ledger_at.new.host) path old opened new (g.H.Reader.Read.remaining c.in_ok-held.held.reader) c.in_ok-held.held.length
          (g.H.Ledger.LedgerOut.text c.in_ok-ledger.ledger) (g.H.Ledger.LedgerOut.text c.grow_trunk-grown.new.ledger)
          c.in_ok-held.ensures c.in_ok-ledger.ensures.ok c.in_ok-ledger.ensures.others c.in_ok-ledger.ensures.tells c.close.ensures.put leaves;
    }))) c.grow_trunk-grown.ensures.leaves
