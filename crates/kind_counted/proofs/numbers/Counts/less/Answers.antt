use Rattle.std.proofs.Common.{◌≡◌, ◌≤◌, ◌-ℤ◌, ◌*ℤ◌, FitsSigned, w64, subst, arith}
use Rattle.std.specs.Int.RustNames.{unsigned_abs}
use Rattle.std.proofs.lemmas.Int.{to_z-of_z, fits_signed_from_abs}
use Rattle.law_machines.specs.Terms.{less}
use Rattle.kind_counted.specs.Numbers.{point_of}
use Rattle.kind_counted.proofs.SettlingLaws.{AreLess, small_fits, less_more, less_all}
use Rattle.kind_counted.proofs.numbers.Counts.less.Goals as goal

pub loop-x-preserved : goal.loop-x-preserved
loop-x-preserved c =
    let f : FitsSigned w64 c.args.f = c.ranges.f in
    let small : unsigned_abs c.in_ok-numbers.field-0 ≤ 2147483648 = c.in_ok-numbers.ensures.small in
    let n : FitsSigned w64 c.in_ok-numbers.field-0 = fits_signed_from_abs w64 c.in_ok-numbers.field-0 (omega arith) in
    let before : AreLess c.args.self.now.numbers c.args.f c.args.row.now.numbers c.loop-x.x c.loop-x.numbers =
    subst (λ g. AreLess c.args.self.now.numbers g c.args.row.now.numbers c.loop-x.x c.loop-x.numbers) (to_z-of_z w64 c.args.f f) c.loop-x.invariant in
    let one : FitsSigned w64 (point_of c.args.self.now.numbers c.loop-x.x) = small_fits c.args.self.now.numbers c.loop-x.x c.args.self.now.small in
    let two : FitsSigned w64 (point_of c.args.row.now.numbers c.loop-x.x) = small_fits c.args.row.now.numbers c.loop-x.x c.args.row.now.small in
    let is : c.in_ok-numbers.field-0 ≡ point_of c.args.self.now.numbers c.loop-x.x -ℤ (c.args.f *ℤ point_of c.args.row.now.numbers c.loop-x.x) = simp to_z-of_z at c.in_ok-numbers.ensures.is in
    simp to_z-of_z (less_more c.args.self.now.numbers c.args.f c.args.row.now.numbers c.loop-x.x c.loop-x.numbers c.in_ok-numbers.field-0 before (omega arith) small is)

pub returns : goal.returns
returns c =
    let end : c.loop-x.x ≡ 52 = omega arith in
    record {
      less = less_all c.args.self.now.numbers c.args.f c.args.row.now.numbers c.loop-x.numbers c.args.self.now.small c.args.row.now.small
          (subst (λ k. AreLess c.args.self.now.numbers c.args.f c.args.row.now.numbers k c.loop-x.numbers) end
          (subst (λ g. AreLess c.args.self.now.numbers g c.args.row.now.numbers c.loop-x.x c.loop-x.numbers) (to_z-of_z w64 c.args.f c.ranges.f) c.loop-x.invariant));
    }
