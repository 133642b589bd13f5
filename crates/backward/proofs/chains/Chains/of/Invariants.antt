use Rattle.std.proofs.Common.{◌≡◌, ◌*◌, ◌-◌, length}
use Rattle.machine_text.specs.Terms.{state_limit}
use Rattle.backward.specs.inside.{AreChains}
use Rattle.backward.proofs.chains.Chains.of.Given as goal

-- the places from the last ones on are in their chains
abbrev pub invariant-loop-done : goal.invariant-loop-done
invariant-loop-done l = record {
  firsts : length l.first ≡ state_limit;
  nexts : length l.next ≡ 2 * state_limit;
  chains : AreChains l.table (2 * l.table.states - l.done) l.first l.next;
}
