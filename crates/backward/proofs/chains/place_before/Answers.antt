use Rattle.std.proofs.Common.{◌≡◌, ℕ, ◌+◌, ◌<◌, ◌≤◌, ◌==◌, ◌&&◌, Bool, true, false, pos, ◌+ℤ◌, List, length, get_or, set, Option, Some, None, sym, ◌∙◌, arith}
use Rattle.std.specs.Bool.{then_some}
use Rattle.std.specs.Option.{IfSome, IfNone}
use Rattle.machine_text.specs.declared.table.Sym.{Sym}
use Rattle.machine_text.specs.declared.table.Entry.{Entry}
use Rattle.law_turing.specs.Terms.{Pair, left_behind, may_hold, known_before}
use Rattle.backward.specs.inside.{known_about}
use Rattle.backward.proofs.PathLaws.{known_before_is}
use Rattle.backward.proofs.chains.place_before.Goals as goal

-- the place, if the step can be taken, is where the head stands before it
placed : (cells : List (Option Sym)) (state head : ℕ) (p : Pair) (e : Entry) (place : ℕ) (o : Option Entry) (leads : Bool) →
    place < length cells →
    pos place ≡ pos head +ℤ left_behind e.dir → o ≡ Some e → leads ≡ ((state == e.next.0) && may_hold (get_or cells place None) e.write) →
    IfSome (then_some leads place) (λ at. known_before (known_about cells state head) p o ≡ Some (known_about (set cells at (Some p.symbol)) p.state at))
placed cells state head p e place o true within behind entry is = known_before_is cells state head p e place o true within behind entry is
placed cells state head p e place o false within behind entry is = tt

not_placed : (cells : List (Option Sym)) (state head : ℕ) (p : Pair) (e : Entry) (place : ℕ) (o : Option Entry) (leads : Bool) →
    place < length cells → pos place ≡ pos head +ℤ left_behind e.dir → o ≡ Some e → leads ≡ ((state == e.next.0) && may_hold (get_or cells place None) e.write) →
    IfNone (then_some leads place) (known_before (known_about cells state head) p o ≡ None)
not_placed cells state head p e place o true within behind entry is = tt
not_placed cells state head p e place o false within behind entry is = known_before_is cells state head p e place o false within behind entry is

near : (size head place : ℕ) (leads : Bool) → place < size → place ≤ head + 1 → head ≤ place + 1 → IfSome (then_some leads place) (λ at. (at < size) × (at ≤ head + 1) × (head ≤ at + 1))
near size head place true within right left = (within, right, left)
near size head place false within right left = tt

pub returns-clause-room : goal.returns-clause-room
returns-clause-room c =
    rw c.then_some.ensures (near (length c.args.cells.now) c.args.head c.left_behind-place.result c.can_lead_to.result (omega (arith, c.left_behind-place.ensures.right, c.requires.room.right)) c.left_behind-place.ensures.right c.left_behind-place.ensures.left)

pub returns-clause-some : goal.returns-clause-some
returns-clause-some c =
    let pair : Pair = record { state = c.args.pair.state.0; symbol = c.args.pair.symbol } in
    let within : c.left_behind-place.result < length c.args.cells.now = omega (arith, c.left_behind-place.ensures.right, c.requires.room.right) in
    rw c.then_some.ensures (placed c.args.cells.now c.args.state.0 c.args.head pair c.in_ok-entry.entry c.left_behind-place.result _ c.can_lead_to.result within c.left_behind-place.ensures.place (sym c.get.ensures.entry ∙ c.in_ok-entry.was) c.can_lead_to.ensures)

pub returns-clause-none : goal.returns-clause-none
returns-clause-none c =
    let pair : Pair = record { state = c.args.pair.state.0; symbol = c.args.pair.symbol } in
    let within : c.left_behind-place.result < length c.args.cells.now = omega (arith, c.left_behind-place.ensures.right, c.requires.room.right) in
    rw c.then_some.ensures (not_placed c.args.cells.now c.args.state.0 c.args.head pair c.in_ok-entry.entry c.left_behind-place.result _ c.can_lead_to.result within c.left_behind-place.ensures.place (sym c.get.ensures.entry ∙ c.in_ok-entry.was) c.can_lead_to.ensures)
