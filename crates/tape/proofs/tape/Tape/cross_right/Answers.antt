use Rattle.std.proofs.Common.{◌≡◌, ◌+◌, ◌-◌, ◌*◌, ap, refl, arith}
use Rattle.std.proofs.lemmas.Int.{ints}
use Rattle.machine_text.specs.declared.table.Dir.TheVariants.{R}
use Rattle.law_turing.specs.Terms.{Tape, moved}
use Rattle.tape.specs.inside.{stored, place_numbered}
use Rattle.tape.proofs.PackedCells.{right_edge-nearest}
use Rattle.tape.proofs.Sweeps.{crossed_by}
use Rattle.tape.proofs.tape.Tape.cross_right.Goals as goal

pub returns-then-low-le-LAST_BIT-clause-ok : goal.returns-then-low-le-LAST_BIT-clause-ok
returns-then-low-le-LAST_BIT-clause-ok c =
    let a = c.self.inside in
    let head : place_numbered (64 * a.block + a.bit) ≡ c.args.self.now.head = ap (λ (t : Tape). t.head) c.self.view_is in
    let at = c.requires.at in
    let place = at.place in
    let inside = at.inside in
    let within = c.self.invariant.inside in
    crossed_by R a.block a.bit (a.bit - c.args.at) c.args.at a.left.items a.word c.with_window-word.result a.right.items c.args.cells c.args.self.now (stored a.block (a.bit - c.args.at + 16) a.left.items c.with_window-word.result a.right.items) _ c.self.view_is refl
    (omega (arith, ints, head, place, inside, within)) (omega (arith, ints, head, place, inside, within)) (record { here = c.with_window-word.ensures.here; others = c.with_window-word.ensures.others }) (omega (arith, ints)) refl

pub returns-in_ok-self-inside-clause-ok : goal.returns-in_ok-self-inside-clause-ok
returns-in_ok-self-inside-clause-ok c =
    let a = c.self.inside in
    let head : place_numbered (64 * a.block + a.bit) ≡ c.args.self.now.head = ap (λ (t : Tape). t.head) c.self.view_is in
    let at = c.requires.at in
    let place = at.place in
    let inside = at.inside in
    let within = c.self.invariant.inside in
    let last = c.if-low-le-LAST_BIT.false in
    crossed_by R a.block a.bit (a.bit - c.args.at) c.args.at a.left.items a.word c.with_window-word.result a.right.items c.args.cells c.args.self.now (moved (stored a.block 63 a.left.items c.with_window-word.result a.right.items) R) _ c.self.view_is
    (right_edge-nearest a.block _ a.left.items _ a.right.items _ c.with_window-word.result _ refl c.in_ok-self-inside.ensures.entered c.in_ok-self-inside.ensures.left)
    (omega (arith, ints, head, place, inside, within)) (omega (arith, ints, head, place, inside, within)) (record { here = c.with_window-word.ensures.here; others = c.with_window-word.ensures.others }) (omega (arith, ints, head, place, inside, within, last)) refl
