use Rattle.machine_text.specs.Terms.{entry_of}
use Rattle.tnf.proofs.UsedLists.{AreMarked}
use Rattle.tnf.proofs.tables.used_states.Given as goal

-- the entries of the states before are marked
abbrev pub invariant-loop-q : goal.invariant-loop-q
invariant-loop-q l = AreMarked l.used l.q (entry_of l.t)
