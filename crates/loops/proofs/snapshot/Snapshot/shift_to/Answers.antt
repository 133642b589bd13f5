use Rattle.std.proofs.Common.{◌≡◌, arith, rules}
use Rattle.std.specs.Int.{w64}
use Rattle.std.specs.Int.RustNames.{FitsSigned}
use Rattle.std.proofs.lemmas.Int.{to_z-of_z}
use Rattle.loops.proofs.CycleLaws.{IsNear, near_moment, near_standing, shift_fits, shift_within}
use Rattle.loops.proofs.snapshot.Snapshot.shift_to.Goals as goal

pub overflow_sub-result : goal.overflow_sub-result
overflow_sub-result c =
    let fits : FitsSigned w64 c.head.result = search rules in
    let fits_kept : FitsSigned w64 c.head-2.result = search rules in
    let here : c.head.result ≡ c.args.runner.now.config.tape.head = search rules in
    let there : c.head-2.result ≡ c.args.self.now.config.tape.head = search rules in
    let near : IsNear c.head.result = rw here (near_standing _ c.steps.ensures.stands c.requires.limit) in
    let near_kept : IsNear c.head-2.result = rw there (near_moment _ _ c.requires.begin (omega (arith, c.requires.early, c.requires.limit))) in
    rw (to_z-of_z w64 c.head.result fits, to_z-of_z w64 c.head-2.result fits_kept) (shift_fits _ _ near_kept near)

pub returns-clause-shift : goal.returns-clause-shift
returns-clause-shift c =
    let fits : FitsSigned w64 c.head.result = search rules in
    let fits_kept : FitsSigned w64 c.head-2.result = search rules in
    let here : c.head.result ≡ c.args.runner.now.config.tape.head = search rules in
    let there : c.head-2.result ≡ c.args.self.now.config.tape.head = search rules in
    let near : IsNear c.head.result = rw here (near_standing _ c.steps.ensures.stands c.requires.limit) in
    let near_kept : IsNear c.head-2.result = rw there (near_moment _ _ c.requires.begin (omega (arith, c.requires.early, c.requires.limit))) in
    let fits_shift = shift_fits _ _ near_kept near in
    simp to_z-of_z (rw (here, there))

pub returns-clause-within : goal.returns-clause-within
returns-clause-within c =
    let fits : FitsSigned w64 c.head.result = search rules in
    let fits_kept : FitsSigned w64 c.head-2.result = search rules in
    let here : c.head.result ≡ c.args.runner.now.config.tape.head = search rules in
    let there : c.head-2.result ≡ c.args.self.now.config.tape.head = search rules in
    let near : IsNear c.head.result = rw here (near_standing _ c.steps.ensures.stands c.requires.limit) in
    let near_kept : IsNear c.head-2.result = rw there (near_moment _ _ c.requires.begin (omega (arith, c.requires.early, c.requires.limit))) in
    let fits_shift = shift_fits _ _ near_kept near in
    simp to_z-of_z (shift_within _ _ near_kept near)
