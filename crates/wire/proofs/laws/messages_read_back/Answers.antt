use Rattle.wire.proofs.MessageTexts.{sent_reads_back}
use Rattle.wire.proofs.laws.messages_read_back.Goals as goal

pub returns : goal.returns
returns c = sent_reads_back
