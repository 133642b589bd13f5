use Rattle.wire.specs.Message.{message_of}
use Rattle.std.proofs.Common.{rules}
use Rattle.wire.proofs.messages.decode.Goals as goal

-- answered by name, so that nothing is offered where an edit makes it false
pub returns-then-frame-gt-MAX_LINE_BYTES : goal.returns-then-frame-gt-MAX_LINE_BYTES
unfolding message_of
returns-then-frame-gt-MAX_LINE_BYTES c = search rules steps 1000000
