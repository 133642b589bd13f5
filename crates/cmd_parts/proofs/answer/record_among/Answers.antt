use Rattle.std.proofs.Common.{rules, ◌≡◌, true, false, sym, ap, subst, ◌∙◌}
use Rattle.cert.specs.Terms.{Recorded, recorded}
use Rattle.ledger.specs.Terms.{claim_in, same_table}
use Rattle.ledger.proofs.Claims.{same_is}
use Rattle.cmd_parts.proofs.FolderAnswers.{claim_first, claim_later}
use Rattle.cmd_parts.proofs.answer.record_among.Goals as goal

pub returns-then-eq-clause-claim : goal.returns-then-eq-clause-claim
unfolding same_table
returns-then-eq-clause-claim c =
    claim_first c.loop-record.record-iterator (recorded c.in-Some.record) c.next.new.self c.args.t.now c.in-Some.ensures.steps (sym c.eq.ensures ∙ c.if-eq.true)
    ∙ c.loop-record.invariant

pub returns-then-eq-clause-table : goal.returns-then-eq-clause-table
unfolding same_table
returns-then-eq-clause-table c = same_is c.in-Some.record.table c.args.t.now (sym c.eq.ensures ∙ c.if-eq.true)

pub loop-record-preserved : goal.loop-record-preserved
unfolding same_table
loop-record-preserved c =
    claim_later c.loop-record.record-iterator (recorded c.in-Some.record) c.next.new.self c.args.t.now c.in-Some.ensures.steps (sym c.eq.ensures ∙ c.if-eq.false)
    ∙ c.loop-record.invariant

pub returns-clause-claim : goal.returns-clause-claim
unfolding claim_in
returns-clause-claim c = ap (λ rs. claim_in rs c.args.t.now) (sym c.in-None.ensures.steps.0) ∙ c.loop-record.invariant
