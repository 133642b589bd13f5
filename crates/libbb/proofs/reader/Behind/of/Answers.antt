use Rattle.std.proofs.Common.{[], Option, Ok, sym, subst}
use Rattle.machine_text.specs.Terms.{Packed}
use Rattle.ledger.specs.Terms.{PeekGives}
use Rattle.libbb.specs.Pieces.{IsHeadedBy}
use Rattle.libbb.proofs.LoadedTexts.{torn_ends, peek_ends}
use Rattle.libbb.proofs.reader.Behind.of.Goals as goal

pub returns-in-Ok-Some : goal.returns-in-Ok-Some
returns-in-Ok-Some c =
    let headed = subst (λ (o : Option Packed). PeekGives c.args.first.now (Ok o)) c.in-Ok-Some.field-0-is c.in-Ok-Some.ensures in
    c.loaded.ensures [] c.new.ensures.stands (subst (λ (p : Packed). IsHeadedBy p c.args.first.now) (sym c.new.ensures.root) headed)

pub returns-in-Ok-None : goal.returns-in-Ok-None
returns-in-Ok-None c =
    torn_ends c.args.first.now c.requires (subst (λ (o : Option Packed). PeekGives c.args.first.now (Ok o)) c.in-Ok-None.field-0-is c.in-Ok-None.ensures)

pub returns-in-Err : goal.returns-in-Err
returns-in-Err c = peek_ends c.args.first.now c.in-Err.fault c.requires c.in-Err.ensures
