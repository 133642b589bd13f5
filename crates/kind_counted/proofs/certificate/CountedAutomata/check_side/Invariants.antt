use Rattle.kind_counted.specs.Items.{coset_of}
use Rattle.kind_counted.specs.Certificate.{counted_of}
use Rattle.kind_counted.specs.inside.Judging.{AreSettled}
use Rattle.kind_counted.proofs.certificate.CountedAutomata.check_side.Given as goal

abbrev pub invariant-loop-q : goal.invariant-loop-q
invariant-loop-q l = record {
  settled : AreSettled (counted_of l.self) l.item.at (coset_of l.item.coset) l.step.side l.step.by l.step.next l.q;
}
