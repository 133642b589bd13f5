use Rattle.std.proofs.Common.{ℕ, List, ◌++◌, ◌+◌, ◌-◌, flat_map, length, slice_index, sym, ap, ◌∙◌, append_assoc}
use Rattle.std.specs.List.{range_with_len}
use Rattle.cmd_page.specs.Census.{item_json}
use Rattle.cmd_page.proofs.PageTexts.{rows_from}
use Rattle.cmd_page.proofs.heading.append_numbers.Goals as goal

pub loop-k-preserved : goal.loop-k-preserved
loop-k-preserved c =
    let m = length c.args.numbers.now in
    let row : ℕ → List ℕ = λ k. item_json k (slice_index c.args.numbers.now k) in
    let rest = flat_map row (range_with_len (c.loop-k.k + 1) (m - (c.loop-k.k + 1))) in
    ap (λ (l : List ℕ). l ++ rest) c.in_ok-append_item.ensures
    ∙ (append_assoc c.loop-k.out.items (row c.loop-k.k) rest
    ∙ (ap (λ (l : List ℕ). c.loop-k.out.items ++ l) (sym (rows_from row c.loop-k.k m c.loop-k-test.true)) ∙ c.loop-k.invariant))
