use Rattle.kind_counted.specs.Items.{start_local, coset_of}
use Rattle.std.proofs.Common.{◌≡◌, List, sym, subst}
use Rattle.kind_counted.specs.declared.item.Item.{Item}
use Rattle.law_machines.specs.Terms.{zeros, IsMember}
use Rattle.kind_counted.specs.inside.Judging.{IsItemAt}
use Rattle.kind_counted.proofs.JudgingLaws.{has_item, one_coset}
use Rattle.kind_counted.proofs.certificate.CountedAutomata.check_start.Goals as goal

pub returns-in-Some-clause-fails : goal.returns-in-Some-clause-fails
returns-in-Some-clause-fails c = λ e starts.
    let item = c.index.result.now in
    let at : IsItemAt c.args.self.now.items.items c.in-Some.i start_local =
    subst (λ (l : List Item). IsItemAt l c.in-Some.i start_local) c.deref.ensures.value c.in-Some.ensures.some in
    let same : coset_of item.coset ≡ starts.coset =
    one_coset c.args.self.now.items.items c.args.self.now.different c.in-Some.i item start_local starts.coset at.below c.index.ensures at starts.has.is in
    c.check_zeros.ensures.fails e (subst (λ k. IsMember k zeros) (sym same) starts.member)

pub returns-in-None-clause-fails : goal.returns-in-None-clause-fails
returns-in-None-clause-fails c = λ e starts.
    c.in-None.ensures.none.none starts.has.is.0
    (subst (λ (l : List Item). IsItemAt l starts.has.is.0 start_local) (sym c.deref.ensures.value) (has_item c.args.self.now.items.items start_local starts.coset starts.has.is))
