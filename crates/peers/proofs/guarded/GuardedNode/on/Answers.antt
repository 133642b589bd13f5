use Rattle.std.proofs.Common.{List, Ok, refl, subst, ℕ}
use Rattle.wire.specs.Terms.{Came}
use Rattle.peers.specs.Passing.{handed_line}
use Rattle.peers.proofs.GuardLaws.{line_passes}
use Rattle.peers.proofs.guarded.GuardedNode.on.Goals as goal

pub returns-in_ok-out-in-Frame-clause-answer : goal.returns-in_ok-out-in-Frame-clause-answer
returns-in_ok-out-in-Frame-clause-answer g c =
    let at = c.args.self.now in
    let line = c.in-Frame.line.now in
    let out = c.in_ok-out-in-Frame.out in
    let p = c.passage-passage.result in
    rw c.in-Frame.is (
      handed_line at.guard line p,
      out,
      subst (λ (l : List ℕ). g.N.Node.answers at.node (Came l) (Ok out) c.on.new.self) c.handed_line-handed.ensures c.in_ok-out-in-Frame.ensures.answer,
      line_passes at.conduct.takes_holdouts at.guard line p out c.tell.new.out c.tell.new.self c.passage-passage.ensures c.tell.ensures.tells c.tell.ensures.cut
          c.tell.ensures.append,
      refl,
    )
