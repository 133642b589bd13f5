use Rattle.std.proofs.Common.{◌≡◌, ℕ, ◌-◌, ap, ◌∙◌, sym, length, arith}
use Rattle.std.specs.List.{range_with_len, filter_map}
use Rattle.machine_text.specs.Text.{fault_at, faults_of}
use Rattle.machine_text.proofs.Reading.{found_later, found_here}
use Rattle.machine_text.proofs.grammar.leftmost_fault.Goals as goal

pub loop-place-init : goal.loop-place-init
unfolding faults_of
loop-place-init c =
    let faults = λ (len : ℕ). filter_map (fault_at c.args.states c.args.text.now) (range_with_len 0 len) in
    ap faults (let e : length c.args.text.now ≡ length c.args.text.now - 0 = omega arith in e)

-- no fault here: it is among those of the places that are left
pub loop-place-preserved : goal.loop-place-preserved
loop-place-preserved c =
    c.loop-place.invariant
    ∙ found_later (fault_at c.args.states c.args.text.now) c.loop-place.place (length c.args.text.now) (omega arith) (sym c.fault_at.ensures ∙ c.in_default.is)

-- the fault here is the first of them
pub returns-in-Some : goal.returns-in-Some
returns-in-Some c = (
  _,
  c.loop-place.invariant
      ∙ found_here (fault_at c.args.states c.args.text.now) c.loop-place.place (length c.args.text.now) c.in-Some.fault (omega arith) (sym c.fault_at.ensures ∙ c.in-Some.is),
)
