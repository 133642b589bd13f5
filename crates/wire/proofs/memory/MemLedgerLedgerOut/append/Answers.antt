use Rattle.std.proofs.Common.{rules}
use Rattle.wire.proofs.memory.MemLedgerLedgerOut.append.Goals as goal

pub returns-then-is_err-clause-err : goal.returns-then-is_err-clause-err
returns-then-is_err-clause-err c = search rules steps 1000000
