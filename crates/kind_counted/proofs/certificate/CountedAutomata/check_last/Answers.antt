use Rattle.std.proofs.Common.{◌-◌, sym, subst}
use Rattle.law_machines.specs.declared.counted.Local.{Local}
use Rattle.law_machines.specs.Terms.{Coset, IsMember, CountedSystem, HasCoset, moved_to, Remains, Settled, None_remains}
use Rattle.kind_counted.specs.Items.{coset_of}
use Rattle.kind_counted.specs.Certificate.{counted_of}
use Rattle.kind_counted.specs.inside.Judging.{coset_by}
use Rattle.kind_counted.proofs.JudgingLaws.{ok_then, settled_fewer}
use Rattle.kind_counted.proofs.SettlingLaws.{left_member, none_left, member_left}
use Rattle.kind_counted.proofs.certificate.CountedAutomata.check_last.Goals as goal

pub returns-in-Ok-clause-settled : goal.returns-in-Ok-clause-settled
returns-in-Ok-clause-settled c =
    let w : CountedSystem = counted_of c.args.self.now in
    let k : Coset = coset_of c.args.item.now.coset in
    let step = c.args.step in
    let next : Local = moved_to step.side step.by.to step.next c.args.b c.args.q in
    let a : Coset = coset_by c.in_ok-points.points.base c.in_ok-points.points.rows.items in
    let b : Coset = coset_by c.in-Ok.points.base c.in-Ok.points.rows.items in
    ok_then c.check_left.result (λ _. Settled (IsMember b) (HasCoset w c.moved_to.result)) (λ _. Settled (Remains w k step.side step.by c.args.last c.args.q) (HasCoset w next))
    (λ _ settled. settled_fewer (Remains w k step.side step.by c.args.last c.args.q) (IsMember b) (HasCoset w next)
    (left_member w k step.side step.by c.args.last c.args.q c.args.used.now.sets.items c.requires.used a c.in_ok-points.ensures.moved
    c.first_of.result c.end_of.result c.first_of.ensures.first c.end_of.ensures.end b c.in-Ok.ensures.kept)
    (subst (λ n. Settled (IsMember b) (HasCoset w n)) c.moved_to.ensures settled))
    c.check_left.ensures.settled

pub returns-in-Ok-clause-fails : goal.returns-in-Ok-clause-fails
returns-in-Ok-clause-fails c = λ e settled.
    let w : CountedSystem = counted_of c.args.self.now in
    let k : Coset = coset_of c.args.item.now.coset in
    let step = c.args.step in
    let next : Local = moved_to step.side step.by.to step.next c.args.b c.args.q in
    let a : Coset = coset_by c.in_ok-points.points.base c.in_ok-points.points.rows.items in
    let b : Coset = coset_by c.in-Ok.points.base c.in-Ok.points.rows.items in
    c.check_left.ensures.fails e
    (subst (λ n. Settled (IsMember b) (HasCoset w n)) (sym c.moved_to.ensures)
    (settled_fewer (IsMember b) (Remains w k step.side step.by c.args.last c.args.q) (HasCoset w next)
    (member_left w k step.side step.by c.args.last c.args.q c.args.used.now.sets.items c.requires.used a c.in_ok-points.ensures.moved
    c.first_of.result c.end_of.result c.first_of.ensures.first c.end_of.ensures.end c.in-Ok.points.base c.in-Ok.points.rows.items c.in-Ok.ensures.kept) settled))

pub returns-in-Err-Fails-clause-settled : goal.returns-in-Err-Fails-clause-settled
returns-in-Err-Fails-clause-settled c =
    let w : CountedSystem = counted_of c.args.self.now in
    let k : Coset = coset_of c.args.item.now.coset in
    let step = c.args.step in
    let a : Coset = coset_by c.in_ok-points.points.base c.in_ok-points.points.rows.items in
    None_remains (none_left w k step.side step.by c.args.last c.args.q c.args.used.now.sets.items c.requires.used a c.in_ok-points.ensures.moved
    c.first_of.result c.end_of.result c.first_of.ensures.first c.end_of.ensures.end (c.in-Err-Fails.ensures.none (cc)))
