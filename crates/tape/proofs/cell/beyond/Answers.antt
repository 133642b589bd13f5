use Rattle.std.proofs.Common.{sym, subst, ◌+◌, arith}
use Rattle.std.specs.Int.{w64}
use Rattle.std.specs.Int.RustNames.{FitsSigned}
use Rattle.std.proofs.lemmas.Int.{ints, to_z-of_z}
use Rattle.machine_text.specs.declared.table.Dir.{Dir}
use Rattle.law_turing.specs.Terms.{Beyond}
use Rattle.tape.specs.inside.{place_numbered}
use Rattle.tape.proofs.WordBits.{from_bits}
use Rattle.tape.proofs.cell.beyond.Goals as goal

pub returns-then-skipped-lt64 : goal.returns-then-skipped-lt64
returns-then-skipped-lt64 c =
    let fits_from : FitsSigned w64 c.args.from = c.ranges.from in
    let number = simp to_z-of_z at c.number_of-from.ensures in
    let skipped = c.saturating_sub-skipped.ensures in
    λ i inside.
    let bits = from_bits c.saturating_sub-skipped.result i c.if-skipped-lt64.true inside in (
      λ one. let from = bits.0 one in subst (λ (s : Dir). Beyond s c.args.from (place_numbered (c.args.number + i))) (sym c.in-R.is) (omega (arith, ints, number, skipped, from)),
      λ beyond. let at = subst (λ (s : Dir). Beyond s c.args.from (place_numbered (c.args.number + i))) c.in-R.is beyond in bits.1 (omega (arith, ints, number, skipped, at)),
    )
