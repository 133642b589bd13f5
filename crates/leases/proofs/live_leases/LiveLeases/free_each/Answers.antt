use Rattle.leases.proofs.Moments.{next_freed, all_freed}
use Rattle.leases.proofs.live_leases.LiveLeases.free_each.Goals as goal

pub loop-number-preserved : goal.loop-number-preserved
loop-number-preserved c = record {
  more = λ q h. c.in_ok-free_tables_of.ensures.more q (c.loop-number.invariant.more q h);
  freed = next_freed c.args.numbers.now c.loop-number.number-index _ c.args.self.now c.loop-number.free.tables c.free_tables_of.new.free.tables c.loop-number-test.true
      c.in_ok-free_tables_of.ensures.more c.in_ok-free_tables_of.ensures.ok c.loop-number.invariant.freed;
}

pub returns-clause-ok : goal.returns-clause-ok
returns-clause-ok c = all_freed c.args.numbers.now c.loop-number.number-index c.args.self.now c.loop-number.free.tables c.loop-number-test.false c.loop-number.invariant.freed
