use Rattle.std.proofs.Common.{Some, subst}
use Rattle.cert.specs.Terms.{Claim, owned_recorded, recorded, GetsScore}
use Rattle.lease_core.proofs.DueRecords.{scored_shown, scored_first, made_unscored}
use Rattle.lease_core.proofs.worker_turns.make.Goals as goal

pub put-requires-clause-first : goal.put-requires-clause-first
put-requires-clause-first c =
    let gets = subst (λ (k : Claim). GetsScore (record { table = c.args.made.now.table; claim = k }) (recorded c.in-Ok.scored)) c.lent.ensures c.in-Ok.ensures in
    scored_first (owned_recorded c.args.made.now) (recorded c.in-Ok.scored) gets c.requires.shown.0 c.args.board.now c.requires.first

pub put-requires-clause-shown : goal.put-requires-clause-shown
put-requires-clause-shown c =
    let gets = subst (λ (k : Claim). GetsScore (record { table = c.args.made.now.table; claim = k }) (recorded c.in-Ok.scored)) c.lent.ensures c.in-Ok.ensures in
    scored_shown (owned_recorded c.args.made.now) (recorded c.in-Ok.scored) gets c.requires.shown.0 c.args.judged c.requires.shown

pub returns-in-Ok-clause-ok : goal.returns-in-Ok-clause-ok
returns-in-Ok-clause-ok c =
    let gets = subst (λ (k : Claim). GetsScore (record { table = c.args.made.now.table; claim = k }) (recorded c.in-Ok.scored)) c.lent.ensures c.in-Ok.ensures in
    made_unscored (owned_recorded c.args.made.now) (recorded c.in-Ok.scored) gets c.requires.shown.0 c.args.board.now c.put.result (Some c.put.new.board) c.put.ensures.ok
