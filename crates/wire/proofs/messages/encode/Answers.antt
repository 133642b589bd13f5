use Rattle.wire.proofs.MessageTexts.{message_of-message_text}
use Rattle.wire.proofs.messages.encode.Goals as goal

pub returns-in-Ok-clause-reads_back : goal.returns-in-Ok-clause-reads_back
returns-in-Ok-clause-reads_back c = λ made. message_of-message_text _ (c.in-Ok.ensures.readable made)
