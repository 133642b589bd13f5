use Rattle.std.proofs.Common.{◌≡◌, ◌<◌, ◌≤◌, ◌-ℤ◌, ◌*ℤ◌, FitsSigned, w64, sym, ap, subst, arith}
use Rattle.std.specs.Int.RustNames.{unsigned_abs}
use Rattle.std.proofs.lemmas.Int.{to_z-of_z, fits_signed_from_abs}
use Rattle.law_machines.specs.Terms.{Point, less}
use Rattle.kind_counted.specs.Numbers.{point_of}
use Rattle.kind_counted.proofs.SettlingLaws.{small_fits}
use Rattle.kind_counted.proofs.numbers.Counts.lessened.Goals as goal

pub returns-in-Some-clause-lessened : goal.returns-in-Some-clause-lessened
returns-in-Some-clause-lessened c =
    let small : unsigned_abs c.rounded.result ≤ 2147483648 = c.rounded.ensures.small in
    let q : FitsSigned w64 c.rounded.result = fits_signed_from_abs w64 c.rounded.result (omega arith) in
    let one : FitsSigned w64 (point_of c.args.self.now.numbers c.args.place) = small_fits c.args.self.now.numbers c.args.place c.args.self.now.small in
    let two : FitsSigned w64 (point_of c.args.row.now.numbers c.args.place) = small_fits c.args.row.now.numbers c.args.place c.args.row.now.small in
    let is : point_of c.in-Some.rest.numbers ≡ less (point_of c.args.self.now.numbers) c.rounded.result (point_of c.args.row.now.numbers) = simp to_z-of_z at c.in-Some.ensures.less in
    let rest : unsigned_abs (point_of c.args.self.now.numbers c.args.place -ℤ (c.rounded.result *ℤ point_of c.args.row.now.numbers c.args.place)) <
    unsigned_abs (point_of c.args.row.now.numbers c.args.place) = simp to_z-of_z at c.rounded.ensures.rest in
    record {
      times = c.rounded.result;
      is = is;
      small = subst (λ n. unsigned_abs n < unsigned_abs (point_of c.args.row.now.numbers c.args.place)) (sym (ap (λ (v : Point). v c.args.place) is)) rest;
    }
