use Rattle.std.proofs.Common.{◌≡◌, ◌+◌, Some, None, refl, sym, ◌∙◌, ap, subst, arith, ◌↔◌, length}
use Rattle.std.specs.List.{Contains, AllPairs}
use Rattle.std.specs.Ordering.{nat_cmp}
use Rattle.std.specs.declared.cmp.Ordering.TheVariants.{Less}
use Rattle.std.specs.Cmp.Lexicographic.{slice_cmp}
use Rattle.machine_text.specs.Terms.{text_of, entry_of}
use Prim.Native.Nat.{min}
use Rattle.machine_text.specs.declared.table.Sym.TheVariants.{Zero}
use Rattle.machine_text.specs.declared.table.Dir.TheVariants.{L, R}
use Rattle.law_tree.specs.Terms.{used_count, children_at}
use Rattle.tnf.specs.Children.{IsChildAt}
use Rattle.tnf.proofs.ChildLists.{to, children_members, by_parts, empty_children, filled_children, without_children}
use Rattle.law_tree.proofs.ChildTables.{children_rise, children_bound}
use Rattle.tnf.proofs.child_tables.Children.of.Goals as goal
use Rattle.tnf.proofs.child_tables.Children.of.Goals.{then-undefined-states, else-undefined-states, then-undefined-lt2, else-undefined-lt2}

pub returns-clause-list : goal.returns-clause-list
returns-clause-list c =
    let p = c.args.parent.now in
    let q = c.args.state.0 in
    let s = c.args.symbol in
    let d = c.if-undefined-states.first_dir in
    let next = c.if-undefined-lt2.result in
    let u = min p.states (used_count p.states (entry_of p) + 1) in
    let targets : c.min.result ≡ u =
    c.min.ensures ∙ ap (λ n. min n (c.used.result + 1)) c.states-2.ensures.states ∙ ap (λ k. min p.states (k + 1)) c.used.ensures.count in
    elim c.if-undefined-lt2.branch [
      | then-undefined-lt2 few ↦ by_parts p q s c.min.result u d d next None (children_at p q s) targets refl few.result-is (without_children p q s u d (omega arith))
      | else-undefined-lt2 two ↦ elim c.if-undefined-states.branch [
        | then-undefined-states all ↦
            by_parts p q s c.min.result u d R next (Some (to Zero R 0)) (children_at p q s) targets all.first_dir-is
            (two.result-is ∙ ap (λ x. Some (to Zero x 0)) all.first_dir-is) (empty_children p q s (omega arith) (omega arith))
        | else-undefined-states some ↦
            by_parts p q s c.min.result u d L next (Some (to Zero L 0)) (children_at p q s) targets some.first_dir-is
            (two.result-is ∙ ap (λ x. Some (to Zero x 0)) some.first_dir-is) (filled_children p q s (omega arith) (λ h. omega arith))
      ]
    ]

pub returns-clause-members : goal.returns-clause-members
returns-clause-members c = λ u t o.
    subst (λ ts. Contains ts t ↔ IsChildAt c.args.parent.now u c.args.state.0 c.args.symbol t) (sym (returns-clause-list c))
    (children_members c.args.parent.now u c.args.state.0 c.args.symbol c.states.ensures.table o t)

pub returns-clause-rising : goal.returns-clause-rising
returns-clause-rising c =
    subst (λ ts. AllPairs (λ a b. slice_cmp nat_cmp (text_of a) (text_of b) ≡ Less) ts) (sym (returns-clause-list c))
    (children_rise c.args.parent.now c.args.state.0 c.args.symbol c.states.ensures.table c.requires)

pub returns-clause-most : goal.returns-clause-most
returns-clause-most c = omega (arith, ap length (returns-clause-list c), children_bound c.args.parent.now c.args.state.0 c.args.symbol)
