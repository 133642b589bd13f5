use Rattle.cmd_parts.proofs.TakenLedgers.{one_begins, two_begins}
use Rattle.cmd_parts.proofs.ledger_loop.is_head.Goals as goal

pub returns-then-starts_with : goal.returns-then-starts_with
returns-then-starts_with c = one_begins c.args.text.now c.starts_with.result c.starts_with.ensures.value c.if-starts_with.true

pub returns-else-starts_with : goal.returns-else-starts_with
returns-else-starts_with c =
    two_begins c.args.text.now c.starts_with.result c.starts_with-else-starts_with.result c.starts_with.ensures.value c.if-starts_with.false c.starts_with-else-starts_with.ensures.value
