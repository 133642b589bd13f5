use Rattle.std.proofs.Common.{◌≡◌}
use Rattle.ledger.specs.Terms.{claim_in}
use Rattle.cmd_parts.proofs.answer.record_among.Given as goal

-- what is claimed of the table stands among the records that are left
abbrev pub invariant-loop-record : goal.invariant-loop-record
invariant-loop-record l = claim_in l.record-iterator l.t ≡ claim_in l.fn.records l.t
