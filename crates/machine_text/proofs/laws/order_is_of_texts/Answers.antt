use Rattle.machine_text.proofs.Order.{order_of_texts}
use Rattle.machine_text.proofs.laws.order_is_of_texts.Goals as goal

pub returns : goal.returns
returns c = order_of_texts
