use Rattle.std.proofs.Common.{◌<◌, sym, ap, ◌∙◌, subst}
use Rattle.machine_text.specs.Packed.{Packed, entry_of}
use Rattle.machine_text.proofs.Tables.{with_entry-stored, entry_of-with_entry}
use Rattle.machine_text.proofs.table.Table.filled.Goals as goal

pub returns-clause-table : goal.returns-clause-table
returns-clause-table c =
    let at = subst (λ (t : Packed). c.args.q.0 < t.states) (sym c.self.view_is) c.requires.at in
    let next = subst (λ (t : Packed). c.args.e.next.0 < t.states) (sym c.self.view_is) c.requires.next in
    rw (← c.self.view_is, c.pair_place.ensures, c.of.ensures) (sym (with_entry-stored _ c.args.q.0 c.args.s c.args.e c.self.invariant at next))

pub returns-clause-entries : goal.returns-clause-entries
returns-clause-entries c p r =
    let at = subst (λ (t : Packed). c.args.q.0 < t.states) (sym c.self.view_is) c.requires.at in
    let next = subst (λ (t : Packed). c.args.e.next.0 < t.states) (sym c.self.view_is) c.requires.next in
    ap (λ t. entry_of t p r) (returns-clause-table c)
    ∙ rw (← c.self.view_is) (entry_of-with_entry _ c.args.q.0 c.args.s c.args.e c.self.invariant at next p r)
