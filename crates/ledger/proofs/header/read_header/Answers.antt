use Rattle.ledger.proofs.HeaderLaws.{none_begun, none_named, is_named}
use Rattle.ledger.proofs.header.read_header.Goals as goal

pub returns-else-is_begun_header : goal.returns-else-is_begun_header
returns-else-is_begun_header c =
    none_begun c.args.text.now c.in_default.ensures.none (λ begun. let holds = c.is_begun_header.ensures.1 begun in let fails = c.if-is_begun_header.false in cc)

pub returns-in-Some-header_in : goal.returns-in-Some-header_in
returns-in-Some-header_in c = is_named c.args.text.now c.in-Some.line.now c.in-Some.rest.now c.in-Some.ensures.some c.in-Some-header_in.header.format c.in-Some-header_in.header.root c.in-Some-header_in.ensures

pub returns-in-None : goal.returns-in-None
returns-in-None c = none_named c.args.text.now c.in-Some.line.now c.in-Some.rest.now c.in-Some.ensures.some c.in-None.ensures
