use Rattle.std.proofs.Common.{sym, subst, List, Contains}
use Rattle.machine_text.specs.Terms.{Packed}
use Rattle.leases.proofs.FreeLaws.{one_more, all_in}
use Rattle.leases.proofs.held_leases.free_all.Goals as goal

pub returns-in_err-push-clause-more : goal.returns-in_err-push-clause-more
returns-in_err-push-clause-more c = λ q h. subst (λ (tables : List Packed). Contains tables q) (sym c.in_err-push.ensures.err) (c.loop-t.invariant.more q h)

pub loop-t-preserved : goal.loop-t-preserved
loop-t-preserved c =
    let gained = c.in_ok-push.ensures.ok in
    record {
      more = λ q h. gained.others q (c.loop-t.invariant.more q h);
      freed = one_more c.args.tables.now c.loop-t.t-index c.t-item.result c.loop-t.free.tables c.push.new.self.tables c.loop-t-test.true c.t-item.is gained.others gained.here c.loop-t.invariant.freed;
    }

pub returns-clause-ok : goal.returns-clause-ok
returns-clause-ok c = all_in c.args.tables.now c.loop-t.t-index c.loop-t.free.tables c.loop-t-test.false c.loop-t.invariant.freed
