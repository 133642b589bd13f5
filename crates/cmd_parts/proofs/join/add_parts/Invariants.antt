use Rattle.std.proofs.Common.{take}
use Rattle.cmd_parts.specs.inside.{AreAdded}
use Rattle.cmd_parts.proofs.join.add_parts.Given as goal

-- the parts of the roots before the place are added
abbrev pub invariant-loop-root : goal.invariant-loop-root
invariant-loop-root g l = AreAdded (g.S.PartLedgers.finds l.parts) l.folder (take l.root-index l.roots) l.fn.whole.trunk l.whole l.are_sound
    (g.C.Collector.text l.fn.collector) (g.C.Collector.text l.collector) (g.E.Write.contents l.fn.faults) (g.E.Write.contents l.faults)
    (g.C.Collector.counts l.fn.collector) (g.C.Collector.counts l.collector)
