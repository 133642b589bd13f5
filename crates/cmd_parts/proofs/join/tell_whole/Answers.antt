use Rattle.cmd_parts.proofs.join.tell_whole.Goals as goal
use Rattle.totals.specs.Terms.{joined_with}

pub returns-clause-ok : goal.returns-clause-ok
returns-clause-ok g c = λ parts whole.
    let trunk = c.args.whole.now.trunk in
    let told = c.in_ok-write_told.ensures.ok trunk.root (joined_with trunk.records parts) (c.in_ok-told_of.ensures parts whole) in
    record {
      text = told.0;
      is_text = told.1;
      says = told.2;
      status = c.status-status.result;
      stands = c.status-status.ensures.stands parts whole;
      ends = c.outcome_of.ensures;
    }
