use Rattle.std.proofs.Common.{ℕ, List, [], ◌∷◌, ◌++◌}
use Rattle.std.specs.Prelude.{codes, decimal}
use Rattle.cmd_ledgers.proofs.TreeReports.{on_ok, one_more}
use Rattle.find_search.proofs.Lines.{appended_last}
use Rattle.find_search.proofs.telling.append_first.Goals as goal

pub returns : goal.returns
returns c =
    let old = c.args.out.now.items in
    let words : List ℕ = codes " refused, the first in line " in
    let has_number = one_more old words (decimal c.args.first) c.in_ok-extend_from_slice.ensures.items c.in_ok-append_number.ensures.ok in
    on_ok c.extend_from_slice-2.result (λ last. one_more old (words ++ decimal c.args.first) (10 ∷ []) has_number last)
    (appended_last c.extend_from_slice-2.result c.append_number.new.out.items (10 ∷ []) c.extend_from_slice-2.new.self.items c.extend_from_slice-2.ensures.items)
