use Rattle.std.proofs.lemmas.Grind.{common_steps}
use Rattle.std.proofs.Common.{◌≡◌, [], arith, refl, ◌∙◌, ap}
use Rattle.std.specs.Vec.{vec_items}
use Rattle.std.proofs.lemmas.Result.{err_from_is_err_and}
use Rattle.lease_core.proofs.DueRecords.{asks_row, grows_asking, grows_due}
use Rattle.lease_core.proofs.worker.Worker.answer_tick.Goals as goal

-- answered by name, so that nothing is offered where an edit makes it false
pub returns-then-may_work-clause-ok : goal.returns-then-may_work-clause-ok
returns-then-may_work-clause-ok g c = grind (arith, common_steps)

pub returns-clause-ok : goal.returns-clause-ok
returns-clause-ok g c =
    let frames = c.in_ok-due.due in
    let sized = frames.ok in
    let tested = c.is_empty.ensures in
    let empty = c.if-not-is_empty.false in
    let none : frames.items ≡ [] = grind (arith, common_steps, sized, tested, empty) in
    let busy = c.may_work.ensures in
    let idle = c.if-may_work.false in
    asks_row _ c.args.self.now _ c.sent-2.result frames.items c.self.view_is c.if-self.false c.in_ok-due.ensures.ok none (λ w. let works = busy.1 w in absurd (cc (works, idle)))
    (record { cut_is = c.sent-2.ensures.cut; append_is = c.sent-2.ensures.append; frames_are = ap vec_items c.sent-2.ensures.frames ∙ c.in_ok-frames.ensures; note_is = c.sent-2.ensures.note }) refl

pub returns-in_err-due-clause-grows : goal.returns-in_err-due-clause-grows
returns-in_err-due-clause-grows g c =
    let p = err_from_is_err_and c.from_residual.result c.from_residual.ensures.1 in
    rw p.1 (grows_due _ c.args.self.now c.self.view_is c.if-self.false c.in_err-due.ensures.grows)

pub returns-in_err-frames-clause-grows : goal.returns-in_err-frames-clause-grows
returns-in_err-frames-clause-grows g c =
    let p = err_from_is_err_and c.from_residual-in_err-frames.result c.from_residual-in_err-frames.ensures.1 in
    let frames = c.in_ok-due.due in
    let sized = frames.ok in
    let tested = c.is_empty.ensures in
    let empty = c.if-not-is_empty.false in
    let none : frames.items ≡ [] = grind (arith, common_steps, sized, tested, empty) in
    let busy = c.may_work.ensures in
    let idle = c.if-may_work.false in
    rw p.1 (grows_asking _ c.args.self.now frames.items c.self.view_is c.if-self.false c.in_ok-due.ensures.ok none (λ w. let works = busy.1 w in absurd (cc (works, idle))))
