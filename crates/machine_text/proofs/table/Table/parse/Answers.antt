use Rattle.std.proofs.Common.{sym}
use Rattle.machine_text.specs.Packed.{tabulated}
use Rattle.machine_text.proofs.Tables.{IsTable-tabulated}
use Rattle.machine_text.proofs.RoundTrip.{table_of-length, table_of-faulty, table_of-clean, length_of_states, IsMapOf-named}
use Rattle.machine_text.proofs.table.Table.parse.Goals as goal

pub returns-in_default : goal.returns-in_default
returns-in_default c = sym (table_of-length _ c.in_default.ensures.none)

pub returns-in-None : goal.returns-in-None
returns-in-None c =
    sym (table_of-faulty _ c.in-Some.states _ _ c.in-Some.ensures.some c.in-Some.ensures.length c.leftmost_fault.ensures.1)

pub invariant_of-result : goal.invariant_of-result
unfolding tabulated
invariant_of-result c =
    let size = length_of_states _ c.in-Some.states c.in-Some.ensures.some c.in-Some.ensures.length in
    rw c.in-Some-codes_named.ensures.some (IsTable-tabulated _ _ (IsMapOf-named c.in-Some.states c.args.text.now size.1 size.2 size.0))

pub returns-in-Some-codes_named : goal.returns-in-Some-codes_named
unfolding tabulated
returns-in-Some-codes_named c =
    rw c.in-Some-codes_named.ensures.some (sym (table_of-clean _ c.in-Some.states c.in-Some.ensures.some c.in-Some.ensures.length c.in-Some-codes_named.ensures.clean))
