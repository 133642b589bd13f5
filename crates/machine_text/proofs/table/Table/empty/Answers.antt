use Rattle.std.proofs.Common.{None, refl}
use Rattle.machine_text.specs.Packed.{tabulated}
use Rattle.machine_text.proofs.Tables.{entry_of-tabulated}
use Rattle.machine_text.proofs.table.Table.empty.Goals as goal

-- each of the codes is that of no entry
pub returns-clause-entries : goal.returns-clause-entries
unfolding tabulated
returns-clause-entries c =
    entry_of-tabulated c.args.n (λ q s. None) (record { some = c.requires.some; limit = c.requires.limit; beyond = λ q s past. refl; inside = λ q s. tt })

pub returns-clause-table : goal.returns-clause-table
unfolding tabulated
returns-clause-table c = refl
