use Rattle.std.proofs.Common.{◌≡◌, ◌∙◌, ap, rules}
use Rattle.run.specs.Terms.{RunState}
use Rattle.loops.specs.inside.{Moment}
use Rattle.loops.proofs.CycleLaws.{arrived, kept_moment, decides_cycle}
use Rattle.loops.proofs.cycles.has_cycle.Goals as goal

pub returns : goal.returns
returns c =
    let first = arrived c.args.i c.in_ok-runner.runner c.comes_to.new.runner c.in_ok-comes_to.field-0 c.in_ok-comes_to.ensures (search rules) in
    let second = arrived c.args.j c.comes_to.new.runner c.comes_to-2.new.runner c.in_ok-comes_to-2.field-0 c.in_ok-comes_to-2.ensures (search rules) in
    let began : c.in_ok-runner.runner.table ≡ c.args.t.now = ap (λ (r : RunState). r.table) c.in_ok-runner.ensures in
    let moment = kept_moment c.args.t.now c.comes_to.new.runner c.in_ok-begin.begin (first.table ∙ began) first.stands c.in_ok-begin.ensures.kept in
    let time : c.in_ok-begin.begin.time ≡ c.args.i = ap (λ (m : Moment). m.time) c.in_ok-begin.ensures.kept ∙ first.steps in
    decides_cycle c.args.t.now c.args.i c.args.j c.in_ok-begin.begin c.comes_to-2.new.runner c.is_same.result moment time (second.table ∙ (first.table ∙ began)) second.stands second.steps c.requires.order c.is_same.ensures
