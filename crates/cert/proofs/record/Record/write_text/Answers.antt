use Rattle.std.proofs.Common.{rules}
use Rattle.cert.proofs.record.Record.write_text.Goals as goal

-- answered by name, so that nothing is offered where an edit makes it false
pub returns-in-Err-clause-err : goal.returns-in-Err-clause-err
returns-in-Err-clause-err c = search rules steps 100000
