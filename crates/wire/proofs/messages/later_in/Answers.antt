use Rattle.std.proofs.Common.{Some, sym, ◌∙◌, ap}
use Rattle.wire.specs.Message.{◌>>=◌, Later}
use Rattle.wire.proofs.messages.later_in.Goals as goal

pub returns : goal.returns
returns c = ap (λ o. o >>= λ table. Some (Later (Some table))) (sym c.in_ok-table_in.was ∙ c.table_in.ensures)
