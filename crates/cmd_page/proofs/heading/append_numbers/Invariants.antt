use Rattle.std.proofs.Common.{◌≡◌, ◌++◌, ◌-◌, flat_map, length, slice_index}
use Rattle.std.specs.List.{range_with_len}
use Rattle.cmd_page.specs.Census.{item_json, numbers_json}
use Rattle.cmd_page.proofs.heading.append_numbers.Given as goal

-- what was appended, and the numbers that are left, are all
abbrev pub invariant-loop-k : goal.invariant-loop-k
invariant-loop-k l =
    l.out.items ++ flat_map (λ k. item_json k (slice_index l.numbers k)) (range_with_len l.k (length l.numbers - l.k))
    ≡ l.fn.out.items ++ numbers_json (length l.numbers) (slice_index l.numbers)
