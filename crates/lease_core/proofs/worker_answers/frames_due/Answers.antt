use Rattle.std.proofs.Common.{ℕ, ◌++◌, List, map, take, ◌∙◌, ap}
use Rattle.std.proofs.lemmas.Result.{err_from_is_err_and}
use Rattle.cert.specs.Terms.{Recorded, recorded}
use Rattle.ledger.specs.Terms.{same_table}
use Rattle.wire.specs.Terms.{frames_of, Rec}
use Rattle.lease_core.specs.Limits.{tick_record_limit}
use Rattle.lease_core.specs.WorkerState.{unacknowledged}
use Rattle.lease_core.proofs.DueRecords.{due_from, sends_one, passes_one, is_due}
use Rattle.lease_core.proofs.worker_answers.frames_due.Goals as goal

pub loop-r-init : goal.loop-r-init
loop-r-init c =
    let tables = c.args.acknowledged.now.keys in
    ap (λ (frames : List ℕ). frames ++ frames_of (map Rec (take tick_record_limit (unacknowledged tables c.into_iter-r-iterator.result)))) c.new-frames.ensures.items
    ∙ ap (λ (rs : List Recorded). frames_of (map Rec (take tick_record_limit rs)))
    (ap (unacknowledged tables) (c.into_iter-r-iterator.ensures.into_iter_gives ∙ c.records_from-r-items.ensures) ∙ due_from tables c.args.board.now.records c.args.from c.requires)

pub loop-r-preserved-then-not-contains : goal.loop-r-preserved-then-not-contains
unfolding same_table
loop-r-preserved-then-not-contains c =
    sends_one c.args.acknowledged.now.keys c.loop-r.frames.items c.send.new.frames.items (recorded c.in-Some.r) c.loop-r.r-iterator c.next.new.self c.loop-r.room _ c.contains.result
    c.in-Some.ensures.steps c.contains.ensures c.if-not-contains.true c.if-room-eq0.false c.in_ok-send.ensures c.loop-r.invariant

pub loop-r-preserved : goal.loop-r-preserved
unfolding same_table
loop-r-preserved c =
    passes_one c.args.acknowledged.now.keys c.loop-r.frames.items (recorded c.in-Some.r) c.loop-r.r-iterator c.next.new.self c.loop-r.room _ c.contains.result
    c.in-Some.ensures.steps c.contains.ensures c.if-not-contains.false c.loop-r.invariant

pub returns-in_err-send-clause-grows : goal.returns-in_err-send-clause-grows
unfolding same_table
returns-in_err-send-clause-grows c =
    let p = err_from_is_err_and c.from_residual.result c.from_residual.ensures.1 in
    rw p.1 (is_due c.args.acknowledged.now.keys c.loop-r.frames.items (recorded c.in-Some.r) c.loop-r.r-iterator c.next.new.self c.args.board.now.records c.loop-r.room c.contains.result
    c.in-Some.ensures.steps c.contains.ensures c.if-not-contains.true c.if-room-eq0.false c.loop-r.invariant)
