use Rattle.ledger.proofs.HeaderLaws.{within_words, past_words}
use Rattle.ledger.proofs.header.is_begun_by.Goals as goal

pub returns-then-starts_with : goal.returns-then-starts_with
returns-then-starts_with c =
    (λ h. within_words c.args.words.now c.args.text.now c.starts_with.result c.starts_with.ensures.value h, λ h. c.if-starts_with.true)

pub returns-else-starts_with : goal.returns-else-starts_with
returns-else-starts_with c =
    past_words c.args.words.now c.args.text.now c.starts_with.result c.starts_with-else-starts_with.result c.starts_with.ensures.value c.if-starts_with.false c.starts_with-else-starts_with.ensures.value
