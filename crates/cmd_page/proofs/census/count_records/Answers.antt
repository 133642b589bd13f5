use Rattle.std.proofs.Common.{rules}
use Rattle.cert.specs.Terms.{recorded}
use Rattle.cmd_page.specs.Census.{letter_of, entry_count}
use Rattle.cmd_page.proofs.PageLaws.{by_entries, by_kind, by_steps, none_counted, counted_more, counted_room, number_more, number_room}
use Rattle.cmd_page.proofs.census.count_records.Goals as goal

pub loop-r-init : goal.loop-r-init
loop-r-init c = record {
  kinds = none_counted by_kind 256 c.args.records c.into_iter-r-iterator.result (search rules);
  entries = none_counted by_entries 15 c.args.records c.into_iter-r-iterator.result (search rules);
  steps = none_counted by_steps 64 c.args.records c.into_iter-r-iterator.result (search rules);
}

pub loop-r-preserved : goal.loop-r-preserved
loop-r-preserved c =
    let r = recorded c.in-Some.r in record {
      kinds = counted_more by_kind 256 c.args.records c.loop-r.kinds c.count_up.new.counts r c.next.new.self c.loop-r.r-iterator c.loop-r.invariant.kinds c.in-Some.ensures.steps
          (number_more (λ r. letter_of r.claim) 256 c.loop-r.kinds c.count_up.new.counts r c.letter_of.result c.letter_of.ensures.letter c.count_up.ensures);
      entries = counted_more by_entries 15 c.args.records c.loop-r.entries c.count_up-in-loop-r.new.counts r c.next.new.self c.loop-r.r-iterator c.loop-r.invariant.entries c.in-Some.ensures.steps
          (number_more (λ r. entry_count r.table) 15 c.loop-r.entries c.count_up-in-loop-r.new.counts r c.entry_count.result c.entry_count.ensures.count c.count_up-in-loop-r.ensures);
      steps = counted_more by_steps 64 c.args.records c.loop-r.steps c.count_steps.new.counts r c.next.new.self c.loop-r.r-iterator c.loop-r.invariant.steps c.in-Some.ensures.steps c.count_steps.ensures;
    }

pub count_up-requires-clause-room : goal.count_up-requires-clause-room
count_up-requires-clause-room c = number_room (λ r. letter_of r.claim) 256 c.args.records c.loop-r.kinds (recorded c.in-Some.r) c.next.new.self c.loop-r.r-iterator c.letter_of.result c.loop-r.invariant.kinds c.in-Some.ensures.steps c.letter_of.ensures.letter c.letter_of.ensures.byte c.requires

pub count_steps-requires-clause-room : goal.count_steps-requires-clause-room
count_steps-requires-clause-room c = λ k few at.
    counted_room by_steps 64 c.args.records c.loop-r.steps (recorded c.in-Some.r) c.next.new.self c.loop-r.r-iterator k c.loop-r.invariant.steps c.in-Some.ensures.steps at few c.requires
