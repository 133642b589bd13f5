use Rattle.std.proofs.Common.{◌≡◌, rules}
use Rattle.std.specs.Int.{w64}
use Rattle.std.specs.Int.RustNames.{FitsSigned}
use Rattle.std.proofs.lemmas.Int.{to_z-of_z}
use Rattle.loops.proofs.CycleLaws.{follows_first}
use Rattle.loops.proofs.translated.Trail.begin.Goals as goal

pub returns : goal.returns
returns c =
    let fits : FitsSigned w64 c.head-self.result = search rules in
    let here : c.head-self.result ≡ c.args.runner.now.config.tape.head = search rules in
    rw (to_z-of_z w64 c.head-self.result fits) (follows_first _ c.args.runner.now _ _ c.retake.ensures.stands c.in_ok-retake.ensures.kept here)
