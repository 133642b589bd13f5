use Rattle.std.proofs.Common.{◌≡◌, sym, ◌∙◌, arith, rules}
use Rattle.std.specs.Int.{w64}
use Rattle.std.specs.Int.RustNames.{FitsSigned}
use Rattle.std.proofs.lemmas.Int.{to_z-of_z}
use Rattle.std.specs.Prelude.{◌↔◌, IsTrue}
use Rattle.tape.specs.Terms.{SameBeyond}
use Rattle.std.proofs.lemmas.Bool.Decides.{nat_tests}
use Rattle.loops.proofs.CycleLaws.{near_bound, near_within, compared, test_passed}
use Rattle.loops.proofs.snapshot.Snapshot.is_translated.Goals as goal
use Rattle.loops.proofs.snapshot.Snapshot.is_translated.Goals.{then-eq, else-eq}

pub same_half-requires-clause-from : goal.same_half-requires-clause-from
same_half-requires-clause-from c =
    rw (to_z-of_z w64 c.args.bound c.ranges.bound) (near_within _ (near_bound _ _ _ _ c.args.bound c.requires.farthest c.requires.limit))

pub returns-then-is_onward : goal.returns-then-is_onward
returns-then-is_onward c =
    let fits : FitsSigned w64 c.shift_to-shift.result = search rules in
    let fits_bound : FitsSigned w64 c.args.bound = c.ranges.bound in
    let same = simp to_z-of_z at c.same_half.ensures in
    let heads = compared c.args.side c.args.self.now c.args.runner.now c.args.bound c.shift_to-shift.result c.shift_to-shift.ensures.stands c.requires.begin c.requires.farthest c.shift_to-shift.ensures.shift in
    let same_now : IsTrue c.same_half.result ↔ SameBeyond c.args.side c.args.bound c.shift_to-shift.result c.args.self.now.config.tape.ones c.args.runner.now.config.tape.ones =
    rw (← c.self.view_is, ← c.tape.ensures) same in
    elim c.if-eq.branch [
      | then-eq w ↦
          let state : c.args.self.now.config.state ≡ c.args.runner.now.config.state = rw (← c.self.view_is) (grind (arith, nat_tests, w.if-eq.true, c.eq.ensures, c.state.ensures)) in
          let onward = simp to_z-of_z at w.is_onward.ensures in
          test_passed _ _ _ _ _ _ _ _ c.same_half.result heads state (onward.0 (sym w.value-is ∙ c.if-is_onward.true)) same_now
      | else-eq w ↦ absurd (let fails = w.value-is in let passes = c.if-is_onward.true in cc)
    ]
