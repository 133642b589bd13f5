use Rattle.std.proofs.Common.{◌≡◌, rules}
use Rattle.std.specs.Int.{w64}
use Rattle.std.specs.Int.RustNames.{FitsSigned}
use Rattle.std.proofs.lemmas.Int.{to_z-of_z}
use Rattle.loops.specs.inside.{Follows}
use Rattle.loops.proofs.CycleLaws.{IsFarther, follows_first, follows_more}
use Rattle.loops.proofs.translated.Trail.visit.Goals as goal
use Rattle.loops.proofs.translated.Trail.visit.Goals.{then-is_past+else-has_come_back+else-time, else-is_past}

pub returns-then-time-clause-follows : goal.returns-then-time-clause-follows
returns-then-time-clause-follows c =
    let fits : FitsSigned w64 c.head-head.result = search rules in
    let here : c.head-head.result ≡ c.args.runner.now.config.tape.head = search rules in
    rw (to_z-of_z w64 c.head-head.result fits) (follows_first _ c.args.runner.now _ _ c.retake.ensures.stands c.in_ok-retake.ensures.kept here)

pub returns-clause-follows : goal.returns-clause-follows
returns-clause-follows c =
    let fits : FitsSigned w64 c.head-head.result = search rules in
    let fits_bound : FitsSigned w64 c.if-is_past.self.bound = search rules in
    let fits_farther : FitsSigned w64 c.farther-self.result = search rules in
    let here : c.head-head.result ≡ c.args.runner.now.config.tape.head = search rules in
    let follows : Follows c.args.runner.now.table c.args.runner.now.steps c.if-is_past.self.side c.if-is_past.self.kept c.if-is_past.self.bound =
    elim c.if-is_past.branch [
      | then-is_past+else-has_come_back+else-time w ↦ rw (w.self-is, w.has_come_back.ensures.side, w.has_come_back.ensures.kept, w.has_come_back.ensures.bound) c.requires.follows
      | else-is_past w ↦ rw w.self-is c.requires.follows
    ] in
    let is : IsFarther c.if-is_past.self.side c.if-is_past.self.bound c.args.runner.now.config.tape.head c.farther-self.result = rw (← here) (record { first = simp to_z-of_z at c.farther-self.ensures.first; second = simp to_z-of_z at c.farther-self.ensures.second }) in
    rw (to_z-of_z w64 c.farther-self.result fits_farther) (follows_more _ c.args.runner.now _ _ _ c.steps-time.ensures.stands follows is)
