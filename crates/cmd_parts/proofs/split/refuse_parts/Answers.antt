use Rattle.std.proofs.Common.{rules, ◌≡◌, sym, subst}
use Rattle.std.specs.Prelude.{List, Ok, false}
use Rattle.machine_text.specs.Terms.{Packed}
use Rattle.ledger.specs.Terms.{AreAll}
use Rattle.cmd_parts.specs.Settle.{IsOpenBelow}
use Rattle.cmd_parts.proofs.SplitTrees.{none_seen}
use Rattle.cmd_parts.proofs.split.refuse_parts.Goals as goal

pub returns : goal.returns
returns g c =
    let IsDue = IsOpenBelow c.args.limit c.args.board.now in
    let is : c.deref.result.now ≡ c.in_ok-due.due.items = search rules in
    let all = subst (λ (due : List Packed). AreAll IsDue due) (sym is) c.in_ok-due.ensures in
    none_seen (λ t. g.G.Folder.sees c.args.folder.now t (Ok false)) IsDue c.deref.result.now c.refuse_parts_of.result all c.refuse_parts_of.ensures
