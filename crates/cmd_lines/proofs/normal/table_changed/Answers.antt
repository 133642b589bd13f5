use Rattle.std.proofs.Common.{◌≡◌, ◌∙◌, arith}
use Rattle.machine_text.specs.Terms.{entry_of}
use Rattle.law_turing.proofs.RunLaws.{table_machine}
use Rattle.cmd_lines.proofs.ChangedTables.{changed_more, changed_all}
use Rattle.cmd_lines.proofs.normal.table_changed.Goals as goal

pub loop-q-preserved : goal.loop-q-preserved
loop-q-preserved c = record {
  states = c.with_entry-new-in-loop-q.ensures.states ∙ (c.with_entry-new.ensures.states ∙ c.loop-q.invariant.states);
  changed = changed_more c.args.change (entry_of c.args.t.now) c.loop-q.q (entry_of c.loop-q.new) (entry_of c.with_entry-new.result) (entry_of c.with_entry-new-in-loop-q.result) c.entry.result c.entry-in-loop-q.result
      c.loop-q.invariant.changed c.with_entry-new.ensures.entries c.with_entry-new-in-loop-q.ensures.entries c.entry.ensures.entry c.entry-in-loop-q.ensures.entry;
}

pub returns-clause-entries : goal.returns-clause-entries
returns-clause-entries c =
    let all : c.loop-q.q ≡ c.args.t.now.states = omega arith in
    changed_all c.args.change c.args.t.now.states c.loop-q.q (entry_of c.args.t.now) (entry_of c.loop-q.new) (table_machine c.args.t.now c.states.ensures.table) c.requires all c.loop-q.invariant.changed
