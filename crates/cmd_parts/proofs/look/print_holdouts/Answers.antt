use Rattle.std.proofs.Common.{ℕ, List, [], ◌∷◌, ◌++◌, sym, ap, ◌∙◌, append_assoc}
use Rattle.std.specs.Prelude.{map}
use Rattle.std.specs.Vec.Iter.{into_iter_items}
use Rattle.text.specs.Terms.{joined}
use Rattle.machine_text.specs.Terms.{Packed, text_of}
use Rattle.cmd_parts.proofs.JoinedParts.{appends_both}
use Rattle.cmd_parts.proofs.FolderAnswers.{appends_none}
use Rattle.cmd_parts.proofs.look.print_holdouts.Goals as goal

pub loop-table-init : goal.loop-table-init
loop-table-init g c = (
  [],
  appends_none (g.W.Write.contents c.args.answers.now),
  ap (λ tables. joined (map text_of (into_iter_items tables))) c.into_iter-table-iterator.ensures.into_iter_gives,
)

pub loop-table-preserved : goal.loop-table-preserved
loop-table-preserved g c =
    let before = c.loop-table.invariant in
    let line = text_of c.in-Some.table ++ 10 ∷ [] in (
      before.0 ++ line,
      appends_both _ _ _ before.0 line before.1 c.in_ok-print_line.ensures,
      append_assoc before.0 line (joined (map text_of (into_iter_items c.next.new.self)))
          ∙ (ap (λ (l : List ℕ). before.0 ++ l) (append_assoc (text_of c.in-Some.table) (10 ∷ []) (joined (map text_of (into_iter_items c.next.new.self))))
          ∙ (ap (λ (ts : List Packed). before.0 ++ joined (map text_of ts)) (sym c.in-Some.ensures.steps.0) ∙ before.2)),
    )
