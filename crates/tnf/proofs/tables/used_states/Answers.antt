use Rattle.std.proofs.Common.{◌≡◌, ◌||◌, false, get_or, ◌∙◌, ap, subst, arith}
use Rattle.machine_text.specs.Terms.{entry_of}
use Rattle.tnf.specs.inside.{is_named}
use Rattle.tnf.proofs.UsedLists.{AreMarked, marked_none, marked_step, marked_all}
use Rattle.tnf.proofs.tables.used_states.Goals as goal

pub loop-q-init : goal.loop-q-init
loop-q-init c = marked_none (entry_of c.args.t.now)

pub loop-q-preserved : goal.loop-q-preserved
loop-q-preserved c =
    marked_step c.loop-q.used c.mark.new.used c.mark-in-loop-q.new.used c.loop-q.q (entry_of c.args.t.now) c.loop-q.invariant (omega arith) (omega arith)
    (λ q. c.mark.ensures q ∙ ap (λ o. get_or c.loop-q.used q false || is_named c.loop-q.q o q) c.get.ensures.entry)
    (λ q. c.mark-in-loop-q.ensures q ∙ ap (λ o. get_or c.mark.new.used q false || is_named c.loop-q.q o q) c.get-in-loop-q.ensures.entry)

-- all states have been looked at
pub returns : goal.returns
returns c =
    let all : c.loop-q.q ≡ c.args.t.now.states = omega arith in
    marked_all c.loop-q.used c.args.t.now.states (entry_of c.args.t.now) c.states-q-end.ensures.table.limit
    (subst (λ n. AreMarked c.loop-q.used n (entry_of c.args.t.now)) all c.loop-q.invariant)
