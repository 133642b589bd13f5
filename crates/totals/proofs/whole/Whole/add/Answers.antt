use Rattle.std.proofs.Common.{sym, subst, Contains, rules}
use Rattle.machine_text.specs.Terms.{Packed}
use Rattle.ledger.specs.Terms.{IsOpenOn}
use Rattle.totals.specs.Totals.{AddGives, Collected, totals_of}
use Rattle.totals.proofs.Wholes.{part_added, room_for, still_whole, with_roots}
use Rattle.totals.proofs.whole.Whole.add.Goals as goal

pub returns-then-not-is_open : goal.returns-then-not-is_open
returns-then-not-is_open c = (
  subst (λ (w : Collected). IsOpenOn w.trunk c.args.part.now.root → ⊥) c.self.view_is (λ opened.
      let is_true = c.is_open.ensures.1 (subst (λ (t : Packed). IsOpenOn c.self.inside.trunk t) (sym c.root-its_root.ensures.root) opened) in
      let is_false = c.if-not-is_open.true in
      absurd (cc)),
  search rules,
)

pub returns-then-has_root : goal.returns-then-has_root
returns-then-has_root c = (
  subst (λ (w : Collected). IsOpenOn w.trunk c.args.part.now.root) c.self.view_is
      (subst (λ (t : Packed). IsOpenOn c.self.inside.trunk t) c.root-its_root.ensures.root (c.is_open.ensures.0 c.if-not-is_open.false)),
  subst (λ (w : Collected). Contains w.roots c.args.part.now.root) c.self.view_is
      (subst (λ (t : Packed). Contains c.self.inside.roots.keys t) c.root-its_root.ensures.root (c.has_root.ensures.0 c.if-has_root.true)),
  search rules,
)

pub add_part-requires-clause-nodes : goal.add_part-requires-clause-nodes
add_part-requires-clause-nodes c =
    let w : Collected = record { trunk = c.self.inside.trunk; roots = c.self.inside.roots.keys; totals = totals_of c.self.inside.sums } in
    (room_for w c.args.part.now c.self.invariant
    (subst (λ (t : Packed). IsOpenOn c.self.inside.trunk t) c.root-its_root.ensures.root (c.is_open.ensures.0 c.if-not-is_open.false))
    (λ at. let is_true = c.has_root.ensures.1 (subst (λ (t : Packed). Contains c.self.inside.roots.keys t) (sym c.root-its_root.ensures.root) at) in let is_false = c.if-has_root.false in absurd (cc))).0

pub add_part-requires-clause-open_count : goal.add_part-requires-clause-open_count
add_part-requires-clause-open_count c =
    let w : Collected = record { trunk = c.self.inside.trunk; roots = c.self.inside.roots.keys; totals = totals_of c.self.inside.sums } in
    (room_for w c.args.part.now c.self.invariant
    (subst (λ (t : Packed). IsOpenOn c.self.inside.trunk t) c.root-its_root.ensures.root (c.is_open.ensures.0 c.if-not-is_open.false))
    (λ at. let is_true = c.has_root.ensures.1 (subst (λ (t : Packed). Contains c.self.inside.roots.keys t) (sym c.root-its_root.ensures.root) at) in let is_false = c.if-has_root.false in absurd (cc))).1

pub add_part-requires-clause-fresh : goal.add_part-requires-clause-fresh
add_part-requires-clause-fresh c = λ at.
    let is_true = c.has_root.ensures.1 (subst (λ (t : Packed). Contains c.self.inside.roots.keys t) (sym c.root-its_root.ensures.root) at) in
    let is_false = c.if-has_root.false in
    absurd (cc)

pub invariant_of-self : goal.invariant_of-self
invariant_of-self c =
    let w : Collected = record { trunk = c.self.inside.trunk; roots = c.self.inside.roots.keys; totals = totals_of c.self.inside.sums } in
    still_whole w c.args.part.now c.add_part.result c.add_part.new.roots.keys (totals_of c.add_part.new.sums) c.self.invariant c.root-its_root.ensures.board
    (subst (λ (t : Packed). IsOpenOn c.self.inside.trunk t) c.root-its_root.ensures.root (c.is_open.ensures.0 c.if-not-is_open.false))
    (λ at. let is_true = c.has_root.ensures.1 (subst (λ (t : Packed). Contains c.self.inside.roots.keys t) (sym c.root-its_root.ensures.root) at) in let is_false = c.if-has_root.false in absurd (cc))
    c.add_part.ensures.roots c.add_part.ensures.totals c.add_part.ensures.same_roots c.add_part.ensures.same_totals

pub returns : goal.returns
returns c =
    let w : Collected = record { trunk = c.self.inside.trunk; roots = c.self.inside.roots.keys; totals = totals_of c.self.inside.sums } in
    subst (λ (old : Collected). AddGives old c.args.part.now c.add_part.result (with_roots w c.add_part.new.roots.keys (totals_of c.add_part.new.sums))) c.self.view_is
    (part_added w c.args.part.now c.add_part.result c.add_part.new.roots.keys (totals_of c.add_part.new.sums) c.root-its_root.ensures.board
    (subst (λ (t : Packed). IsOpenOn c.self.inside.trunk t) c.root-its_root.ensures.root (c.is_open.ensures.0 c.if-not-is_open.false))
    (λ at. let is_true = c.has_root.ensures.1 (subst (λ (t : Packed). Contains c.self.inside.roots.keys t) (sym c.root-its_root.ensures.root) at) in let is_false = c.if-has_root.false in absurd (cc))
    c.add_part.ensures.roots c.add_part.ensures.totals c.add_part.ensures.same_roots c.add_part.ensures.same_totals c.add_part.ensures.fault)
