use Rattle.wire.proofs.MessageTexts.{frames_come_through, frames_end}
use Rattle.wire.proofs.laws.messages_come_through.Goals as goal

pub returns-clause-lines : goal.returns-clause-lines
returns-clause-lines c = frames_come_through

pub returns-clause-rest : goal.returns-clause-rest
returns-clause-rest c = frames_end
