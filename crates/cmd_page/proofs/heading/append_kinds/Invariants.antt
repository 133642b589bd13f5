use Rattle.std.proofs.Common.{◌≡◌, ◌++◌, drop, flat_map, slice_index}
use Rattle.cmd_options.specs.Terms.{kind_letters}
use Rattle.cmd_page.specs.Census.{kind_json, kinds_json}
use Rattle.cmd_page.proofs.heading.append_kinds.Given as goal

-- what was appended, and the members that are left, are all
abbrev pub invariant-loop-letter : goal.invariant-loop-letter
invariant-loop-letter l =
    l.out.items ++ flat_map (λ letter. kind_json letter (slice_index l.kinds letter)) (drop l.letter-index kind_letters)
    ≡ l.fn.out.items ++ kinds_json (slice_index l.kinds)
