use Rattle.cmd_page.proofs.PageLaws.{AreCounted, by_entries, by_kind, by_steps}
use Rattle.cmd_page.proofs.census.count_records.Given as goal

-- those that were gone through are counted
abbrev pub invariant-loop-r : goal.invariant-loop-r
invariant-loop-r l = record {
  kinds : AreCounted by_kind 256 l.fn.records l.kinds l.r-iterator;
  entries : AreCounted by_entries 15 l.fn.records l.entries l.r-iterator;
  steps : AreCounted by_steps 64 l.fn.records l.steps l.r-iterator;
}
