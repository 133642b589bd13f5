use Rattle.std.proofs.Common.{refl, subst, arith, ◌-ℤ◌, pos, ◌*◌, ◌+◌, ◌-◌}
use Rattle.std.proofs.lemmas.Int.{ints}
use Rattle.law_turing.specs.Terms.{Tape}
use Rattle.tape.specs.inside.{IsReached, HasOnesWithin, place_numbered}
use Rattle.tape.proofs.Halves.{HasOnesWithin-stored, IsReached-packed}
use Rattle.tape.proofs.tape.Tape.blocks.Goals as goal

pub returns-clause-reached : goal.returns-clause-reached
returns-clause-reached c =
    let a = c.self.inside in
    subst (λ (t : Tape). IsReached t.ones) c.self.view_is (IsReached-packed _ a.block a.bit _ _ _ _ (HasOnesWithin-stored a.block a.bit a.left.items a.right.items a.word _ _ refl refl) refl refl c.self.invariant)

pub returns-clause-all : goal.returns-clause-all
returns-clause-all c =
    let a = c.self.inside in
    let low = c.self.invariant.low in
    let first = place_numbered (64 * (a.block - c.len.result)) in
    let last = place_numbered (64 * (a.block + c.len-2.result + 1)) -ℤ pos 1 in
    subst (λ (t : Tape). HasOnesWithin t.ones first last) c.self.view_is (HasOnesWithin-stored a.block a.bit a.left.items a.right.items a.word first last (omega (arith, ints, a.left.ok.0, c.len.ensures, low)) (omega (arith, ints, a.right.ok.0, c.len-2.ensures)))
