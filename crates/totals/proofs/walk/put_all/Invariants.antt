use Rattle.std.proofs.Common.{◌≡◌, ◌+◌, ◌≤◌, ◌++◌, List, length, reverse, vec_len, vec_capacity}
use Rattle.machine_text.specs.Terms.{Packed}
use Rattle.totals.proofs.walk.put_all.Given as goal

-- what was taken and what is left are all; behind what was ahead is what was taken, the first last; and there is room
abbrev pub invariant-loop-child : goal.invariant-loop-child
invariant-loop-child l = (taken : List Packed) × (taken ++ l.child-iterator ≡ l.fn.found) × (l.ahead.items ≡ l.fn.ahead.items ++ reverse taken)
    × (vec_len l.ahead + length l.child-iterator ≤ vec_capacity l.ahead)
