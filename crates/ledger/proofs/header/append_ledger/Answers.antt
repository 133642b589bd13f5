use Rattle.ledger.specs.LedgerText.{ledger_text}
use Rattle.std.proofs.lemmas.Grind.{common_steps}
use Rattle.std.proofs.Common.{arith}
use Rattle.ledger.proofs.header.append_ledger.Goals as goal

-- answered by name, so that nothing is offered where an edit makes it false
pub returns-clause-ok : goal.returns-clause-ok
unfolding ledger_text
returns-clause-ok c = grind (arith, common_steps)
