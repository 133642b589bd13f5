use Rattle.std.proofs.Common.{◌≡◌, List, true, false, sym, ◌∙◌, subst}
use Rattle.law_machines.specs.Terms.{Coset, IsMember, HasCoset, Settled, Negative, Members}
use Rattle.kind_counted.specs.Items.{coset_of}
use Rattle.kind_counted.specs.Certificate.{counted_of}
use Rattle.kind_counted.specs.inside.Judging.{coset_by, IsNegative, LiesWithin, IsItemAt}
use Rattle.kind_counted.specs.declared.item.Item.{Item}
use Rattle.kind_counted.proofs.JudgingLaws.{ok_then, has_item, item_has, one_coset, settled_within}
use Rattle.kind_counted.proofs.certificate.CountedAutomata.check_left.Goals as goal

pub returns-then-is_negative-clause-settled : goal.returns-then-is_negative-clause-settled
returns-then-is_negative-clause-settled c =
    let is : IsNegative (coset_by c.args.points.now.base c.args.points.now.rows.items) = c.is_negative.ensures.0 c.if-is_negative.true in
    Negative is.place is.number is.below is.same

pub returns-in-Some-clause-settled : goal.returns-in-Some-clause-settled
returns-in-Some-clause-settled c =
    let p : Coset = coset_by c.args.points.now.base c.args.points.now.rows.items in
    let item = c.index.result.now in
    let at : IsItemAt c.args.self.now.items.items c.in-Some.i c.args.next =
    subst (λ (l : List Item). IsItemAt l c.in-Some.i c.args.next) c.deref.ensures.value c.in-Some.ensures.some in
    ok_then c.check_within.result (λ _. LiesWithin p (coset_of item.coset)) (λ _. Settled (IsMember p) (HasCoset (counted_of c.args.self.now) c.args.next))
    (λ _ within. Members (coset_of item.coset) (record { is = item_has c.args.self.now.items.items c.in-Some.i item c.args.next at.below c.index.ensures at }) within.each)
    c.check_within.ensures.within

pub returns-in-Some-clause-fails : goal.returns-in-Some-clause-fails
returns-in-Some-clause-fails c = λ e settled.
    let p : Coset = coset_by c.args.points.now.base c.args.points.now.rows.items in
    let item = c.index.result.now in
    let at : IsItemAt c.args.self.now.items.items c.in-Some.i c.args.next =
    subst (λ (l : List Item). IsItemAt l c.in-Some.i c.args.next) c.deref.ensures.value c.in-Some.ensures.some in
    let not : IsNegative p → ⊥ = λ is. let t : true ≡ false = sym (c.is_negative.ensures.1 is) ∙ c.if-is_negative.false in absurd (cc) in
    let (k, has, within) = settled_within p (HasCoset (counted_of c.args.self.now) c.args.next) not settled in
    let same : coset_of item.coset ≡ k =
    one_coset c.args.self.now.items.items c.args.self.now.different c.in-Some.i item c.args.next k at.below c.index.ensures at has.is in
    c.check_within.ensures.fails e (subst (LiesWithin p) (sym same) within)

pub returns-in-None-clause-fails : goal.returns-in-None-clause-fails
returns-in-None-clause-fails c = λ e settled.
    let p : Coset = coset_by c.args.points.now.base c.args.points.now.rows.items in
    let not : IsNegative p → ⊥ = λ is. let t : true ≡ false = sym (c.is_negative.ensures.1 is) ∙ c.if-is_negative.false in absurd (cc) in
    let (k, has, within) = settled_within p (HasCoset (counted_of c.args.self.now) c.args.next) not settled in
    c.in-None.ensures.none.none has.is.0
    (subst (λ (l : List Item). IsItemAt l has.is.0 c.args.next) (sym c.deref.ensures.value) (has_item c.args.self.now.items.items c.args.next k has.is))
