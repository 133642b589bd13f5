use Rattle.std.proofs.Common.{◌≡◌, ◌⊎◌, true, false, inl, inr, refl, sym, ◌∙◌, ap, subst, List, ◌∷◌, Some, length, Contains, arith}
use Rattle.machine_text.specs.Terms.{Packed}
use Rattle.ledger.specs.Terms.{same_table, IsOpenOn}
use Rattle.ledger.proofs.HeldLaws.{first_or_later, first_member, later_member}
use Rattle.ledger.proofs.Claims.{same_is, apart}
use Rattle.leases.specs.Leases.{came_under}
use Rattle.leases.specs.inside.{ComesUnder}
use Rattle.leases.proofs.Granting.{came_here, came_other, came_cases}
use Rattle.leases.proofs.children.lease_all.Goals as goal

pub loop-child-preserved-then-is_open : goal.loop-child-preserved-then-is_open
loop-child-preserved-then-is_open c =
    let inv = c.loop-child.invariant in
    let child = c.in-Some.child in
    let rest = c.next.new.self in
    let b = c.args.board.now in
    let n = c.args.number in
    let came = c.loop-child.came.entries in
    let next = c.lease_one.new.came.entries in
    let update : ComesUnder came child n next = c.lease_one.ensures.came in
    let steps : c.loop-child.child-iterator ≡ child ∷ rest = c.in-Some.ensures.steps in
    let fewer = ap length steps in
    let came_spare = c.lease_one.ensures.came_spare in
    let tables_spare = c.lease_one.ensures.tables_spare in
    let came_room = inv.came_room in
    let tables_room = inv.tables_room in
    record {
      came_room = omega arith;
      tables_room = omega arith;
      part = λ q h. inv.part q (subst (λ (l : List Packed). Contains l q) (sym steps) (later_member child rest q h));
      here = λ q h is_open. elim (same_table child q) as (λ v. same_table child q ≡ v → (came_under next q ≡ Some n) ⊎ Contains rest q) [
        | true ↦ λ e. inl (subst (λ (q : Packed). came_under next q ≡ Some n) (same_is child q e) (came_here came next child n update))
        | false ↦ λ e.
            let other : q ≡ child → ⊥ = λ w. apart child q e (sym w) in
            elim (inv.here q h is_open) [
              | inl was ↦ inl (came_other came next child n q update other ∙ was)
              | inr left ↦ elim (first_or_later child rest q (subst (λ (l : List Packed). Contains l q) steps left)) [
                | inl same ↦ absurd (other (sym same))
                | inr later ↦ inr later
              ]
            ]
      ] refl;
      other = λ q none. came_other came next child n q update (λ w. none (inv.part q (subst (λ (l : List Packed). Contains l q) (sym steps) (first_member child q rest (sym w))))) ∙ inv.other q none;
      only = λ q k h. elim (came_cases came next child n k q update h) [
        | inl this ↦ inr (
          sym this.1,
          subst (IsOpenOn b) this.0 (c.is_open.ensures.0 c.if-is_open.true),
          subst (Contains c.lease_one.new.tables.keys) this.0 c.lease_one.ensures.tables.here,
        )
        | inr before ↦ elim (inv.only q k before.1) [
          | inl was ↦ inl was
          | inr now ↦ inr (now.0, now.1, c.lease_one.ensures.tables.others q now.2)
        ]
      ];
      more = λ q h. c.lease_one.ensures.tables.others q (inv.more q h);
    }

pub loop-child-preserved : goal.loop-child-preserved
loop-child-preserved c =
    let inv = c.loop-child.invariant in
    let child = c.in-Some.child in
    let rest = c.next.new.self in
    let steps : c.loop-child.child-iterator ≡ child ∷ rest = c.in-Some.ensures.steps in
    let fewer = ap length steps in
    let came_room = inv.came_room in
    let tables_room = inv.tables_room in
    record {
      came_room = omega arith;
      tables_room = omega arith;
      part = λ q h. inv.part q (subst (λ (l : List Packed). Contains l q) (sym steps) (later_member child rest q h));
      here = λ q h is_open. elim (inv.here q h is_open) [
        | inl was ↦ inl was
        | inr left ↦ elim (first_or_later child rest q (subst (λ (l : List Packed). Contains l q) steps left)) [
          | inl same ↦
              let is_true = c.is_open.ensures.1 (subst (IsOpenOn c.args.board.now) (sym same) is_open) in
              let is_false = c.if-is_open.false in
              absurd (cc)
          | inr later ↦ inr later
        ]
      ];
      other = inv.other;
      only = inv.only;
      more = inv.more;
    }
