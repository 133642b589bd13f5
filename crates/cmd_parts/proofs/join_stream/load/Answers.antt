use Rattle.std.proofs.Common.{Option, Ok, subst}
use Rattle.machine_text.specs.Terms.{Packed}
use Rattle.ledger.specs.Terms.{PeekGives}
use Rattle.cmd_parts.proofs.TakenLedgers.{loaded_as, not_loaded}
use Rattle.cmd_parts.proofs.join_stream.load.Goals as goal

pub returns-in-Ok-clause-ok : goal.returns-in-Ok-clause-ok
returns-in-Ok-clause-ok c =
    loaded_as c.args.text.now c.in-Ok-Some.root c.in-Ok.loaded (subst (λ (o : Option Packed). PeekGives c.args.text.now (Ok o)) c.in-Ok-Some.field-0-is c.in-Ok-Some.ensures) c.in-Ok.ensures

pub returns-in-Err-load-clause-err : goal.returns-in-Err-load-clause-err
returns-in-Err-load-clause-err c =
    not_loaded c.args.text.now c.in-Ok-Some.root c.in-Err-load.fault c.by_load.result (subst (λ (o : Option Packed). PeekGives c.args.text.now (Ok o)) c.in-Ok-Some.field-0-is c.in-Ok-Some.ensures) c.in-Err-load.ensures c.by_load.ensures
