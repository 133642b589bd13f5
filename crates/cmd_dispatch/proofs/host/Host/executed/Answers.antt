use Rattle.cmd_dispatch.proofs.host.Host.executed.Goals as goal

pub returns : goal.returns
returns g c = record {
  ended = c.done-ended.result;
  faults = c.done-ended.new.self.faults;
  lines = g.E.Write.contents c.tell_refused.new.faults;
  done = c.done-ended.ensures;
  unsaid = λ none. c.tell_refused.ensures (c.requires.known none);
  told = c.told.ensures;
}
