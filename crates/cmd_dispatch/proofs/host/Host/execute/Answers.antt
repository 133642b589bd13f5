use Rattle.std.proofs.Common.{rules, inl, inr, refl}
use Rattle.cmd_dispatch.proofs.host.Host.execute.Goals as goal

pub returns-in-Ok : goal.returns-in-Ok
returns-in-Ok g c = inl c.executed.ensures

pub returns-in-Err : goal.returns-in-Err
returns-in-Err g c = inr (record {
  wanted = λ none. search rules;
  undone = refl;
  ended = c.in-Err.ended;
  told = c.told.ensures;
})
