use Rattle.std.proofs.Common.{◌*◌, ◌-◌, subst, ℕ, List, refl}
use Rattle.std.proofs.lemmas.Cmp.{ranked}
use Rattle.law_turing.specs.Terms.{Tape}
use Rattle.tape.specs.Cells.{Holds}
use Rattle.tape.specs.inside.{place_numbered}
use Rattle.tape.proofs.Halves.{IsAtDistance, word_left, word_here, word_right}
use Rattle.tape.proofs.tape.Tape.word_at.Goals as goal

pub returns-in-Less : goal.returns-in-Less
returns-in-Less c =
    let a = c.self.inside in
    let at : IsAtDistance a.left.items (a.block - c.args.block) c.at_distance.result =
    subst (λ (side : List ℕ). IsAtDistance side (a.block - c.args.block) c.at_distance.result) c.deref.ensures.value (record { visited = c.at_distance.ensures.visited; blank = c.at_distance.ensures.blank })
    in
    subst (λ (t : Tape). Holds c.at_distance.result t.ones (place_numbered (64 * c.args.block))) c.self.view_is
    (word_left a.block c.args.block a.bit a.left.items a.right.items a.word _ _ (ranked _ _ _ c.in-Less.ensures) refl at)

pub returns-in-Equal : goal.returns-in-Equal
returns-in-Equal c =
    let a = c.self.inside in
    subst (λ (t : Tape). Holds a.word t.ones (place_numbered (64 * c.args.block))) c.self.view_is
    (word_here a.block c.args.block a.bit a.left.items a.right.items a.word (ranked _ _ _ c.in-Equal.ensures))

pub returns-in-Greater : goal.returns-in-Greater
returns-in-Greater c =
    let a = c.self.inside in
    let at : IsAtDistance a.right.items (c.args.block - a.block) c.at_distance-in-Greater.result =
    subst (λ (side : List ℕ). IsAtDistance side (c.args.block - a.block) c.at_distance-in-Greater.result) c.deref-in-Greater.ensures.value (record { visited = c.at_distance-in-Greater.ensures.visited; blank = c.at_distance-in-Greater.ensures.blank })
    in
    subst (λ (t : Tape). Holds c.at_distance-in-Greater.result t.ones (place_numbered (64 * c.args.block))) c.self.view_is
    (word_right a.block c.args.block a.bit a.left.items a.right.items a.word _ _ (ranked _ _ _ c.in-Greater.ensures) refl at)
