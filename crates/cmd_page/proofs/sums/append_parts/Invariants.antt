use Rattle.std.proofs.Common.{drop}
use Rattle.cmd_page.proofs.SummedLedgers.{AreBegun}
use Rattle.cmd_page.proofs.sums.append_parts.Given as goal

abbrev pub invariant-loop-root : goal.invariant-loop-root
invariant-loop-root g l = AreBegun (g.S.PartLedgers.finds l.parts) l.folder l.roots (drop l.root-index l.roots) l.fn.list.items l.list.items
