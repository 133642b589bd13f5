use Rattle.std.proofs.Common.{◌≡◌, [], length, sym, ◌∙◌, ap, subst, arith}
use Rattle.std.specs.Iterator.{YieldsFirst}
use Rattle.tnf.proofs.ChildLists.{first_left, no_tables_left}
use Rattle.tnf.proofs.child_tables.ChildrenIterator.next.Goals as goal

pub returns-clause-steps : goal.returns-clause-steps
returns-clause-steps c =
    sym c.self.view_is ∙ first_left c.self.inside.parent c.self.inside.state.0 c.self.inside.symbol c.self.inside.targets c.self.inside.first_dir
    c.self.inside.next c.entry_after-self-inside.result c.in_ok-entry.entry c.filled.result c.in_ok-entry.was c.filled.ensures.table c.entry_after-self-inside.ensures.left

pub returns-clause-goes : goal.returns-clause-goes
returns-clause-goes c =
    let fewer = ap length (returns-clause-steps c) in
    record { on = λ _. (tt, tt, omega (arith, fewer)); keeps = tt; rests = λ _. tt }

pub returns-in_err-entry-clause-steps : goal.returns-in_err-entry-clause-steps
returns-in_err-entry-clause-steps c =
    let none : c.args.self.now ≡ [] = sym c.self.view_is ∙ no_tables_left c.self.inside.parent c.self.inside.state.0 c.self.inside.symbol c.self.inside.targets c.self.inside.first_dir
    c.self.inside.next c.in_err-entry.was in
    subst (λ r. YieldsFirst (λ left. left) c.args.self.now r c.args.self.now) (sym c.from_residual.ensures) (none, none)
