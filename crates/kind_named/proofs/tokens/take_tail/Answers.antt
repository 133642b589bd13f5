use Rattle.std.proofs.Common.{refl, arith}
use Rattle.kind_named.proofs.ArenaLaws.{extends_same, extends_on}
use Rattle.kind_named.proofs.Openings.{ends_none, ends_more, ends_back, rest_of}
use Rattle.kind_named.proofs.tokens.take_tail.Goals as goal

pub loop-init : goal.loop-init
loop-init c = record { at = omega arith; old = extends_same _; ends = ends_none _ c.args.tail.now _ _ c.requires.left refl }

pub returns-then-not-branch-clause-within : goal.returns-then-not-branch-clause-within
returns-then-not-branch-clause-within c =
    (ends_back _ _ _ _ _ _ _ _ _ c.take_one.ensures.old c.requires.tail c.loop.invariant.ends (c.in_ok-take_one.ensures.same c.if-not-branch.true) (rest_of c.loop.rest c.args.tail.now c.extend_from_slice.new.self.items c.take_one.new.left.items c.in_ok-extend_from_slice.ensures.items)).within

pub returns-then-not-branch-clause-same : goal.returns-then-not-branch-clause-same
returns-then-not-branch-clause-same c =
    λ no. ends_back _ _ _ _ _ _ _ _ _ c.take_one.ensures.old c.requires.tail c.loop.invariant.ends (c.in_ok-take_one.ensures.same c.if-not-branch.true) (rest_of c.loop.rest c.args.tail.now c.extend_from_slice.new.self.items c.take_one.new.left.items c.in_ok-extend_from_slice.ensures.items)

pub loop-preserved : goal.loop-preserved
loop-preserved c =
    let at = c.loop.invariant.at in
    let test = c.loop-test.true in
    record {
      at = omega arith;
      old = extends_on _ _ _ c.loop.invariant.old c.take_one.ensures.old;
      ends = ends_more _ _ _ _ _ _ _ _ _ _ _ c.take_one.ensures.old c.requires.tail (omega arith) (omega arith) refl c.loop.invariant.ends (c.in_ok-take_one.ensures.taken c.if-not-branch.false);
    }
