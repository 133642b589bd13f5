use Rattle.std.proofs.Common.{subst, List, ℕ}
use Rattle.std.specs.Io.KnownBytes.{Appends}
use Rattle.cmd_ledgers.proofs.TreeReports.{on_ok, straight, written_first}
use Rattle.cmd_ledgers.proofs.board_report.pass.Goals as goal

pub returns-then-bytes-capacity : goal.returns-then-bytes-capacity
returns-then-bytes-capacity g c =
    let first = subst (λ (l : List ℕ). Appends (g.W.Write.contents c.args.answers.now) (g.W.Write.contents c.write_all.new.self) l) c.as_slice.ensures.value c.in_ok-write_all.ensures.bytes in
    on_ok c.write_all-then-bytes-capacity.result
    (λ last. written_first (g.W.Write.contents c.args.answers.now) (g.W.Write.contents c.write_all.new.self) (g.W.Write.contents c.write_all-then-bytes-capacity.new.self)
    c.args.piece.now.items c.clear.new.self.items c.clear.new.self.items c.args.bytes.now first c.clear.ensures.items
    (straight (g.W.Write.contents c.write_all.new.self) (g.W.Write.contents c.write_all-then-bytes-capacity.new.self) c.clear.new.self.items c.clear.new.self.items c.args.bytes.now c.clear.ensures.items c.clear.ensures.items last))
    c.write_all-then-bytes-capacity.ensures.bytes
