use Rattle.wire.specs.Message.{said, message_text}
use Rattle.std.proofs.lemmas.Grind.{elements, common_steps}
use Rattle.std.proofs.Common.{arith}
use Rattle.wire.proofs.messages.append_message.Goals as goal

-- answered by name, so that nothing is offered where an edit makes it false
pub returns-in_ok-extend_from_slice-in-Done-clause-kept : goal.returns-in_ok-extend_from_slice-in-Done-clause-kept
returns-in_ok-extend_from_slice-in-Done-clause-kept c = grind (arith, elements)

-- answered by name, so that nothing is offered where an edit makes it false
pub returns-in_ok-extend_from_slice-in-Grant-2-clause-ok : goal.returns-in_ok-extend_from_slice-in-Grant-2-clause-ok
unfolding message_text said
returns-in_ok-extend_from_slice-in-Grant-2-clause-ok c = grind (arith, common_steps)
