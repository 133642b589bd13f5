use Rattle.std.proofs.Common.{List}
use Rattle.machine_text.specs.Terms.{Packed}
use Rattle.ledger.specs.Terms.{IsOpenOn, AreAll}
use Rattle.files.specs.Terms.{IsToldStill, Shelf}
use Rattle.cmd_parts.specs.AtPaths.{AreBegunAt, LeavesPartsAt}
use Rattle.cmd_parts.proofs.folder.begin_parts.Given as goal

-- once those that are left are begun, all are; and once of them the first are, so they are of all
abbrev pub invariant-loop-root : goal.invariant-loop-root
invariant-loop-root g l = (roots : List Packed) × AreAll (IsOpenOn l.board) roots
    × IsToldStill (g.H.Files.tells_same l.fn.host) (g.H.Files.tells_same l.host)
    × ((new : Shelf) → AreBegunAt (g.H.Files.tells_same l.fn.host) l.folder l.root-iterator (g.H.Files.holds l.host) new
    → AreBegunAt (g.H.Files.tells_same l.fn.host) l.folder roots (g.H.Files.holds l.fn.host) new)
    × ((new : Shelf) → LeavesPartsAt (g.H.Files.tells_same l.fn.host) l.folder l.root-iterator (g.H.Files.holds l.host) new
    → LeavesPartsAt (g.H.Files.tells_same l.fn.host) l.folder roots (g.H.Files.holds l.fn.host) new)
