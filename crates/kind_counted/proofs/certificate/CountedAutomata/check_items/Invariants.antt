use Rattle.machine_text.specs.Terms.{entry_of}
use Rattle.kind_counted.specs.Certificate.{counted_of}
use Rattle.kind_counted.specs.inside.Judging.{AllGoOn}
use Rattle.kind_counted.proofs.certificate.CountedAutomata.check_items.Given as goal

abbrev pub invariant-loop-item : goal.invariant-loop-item
invariant-loop-item l = record {
  all : AllGoOn (entry_of l.t) (counted_of l.self) l.self.items.items l.item-index;
}
