use Rattle.std.proofs.Common.{rules}
use Rattle.std.specs.BTreeMap.Entry.{entry_value}
use Rattle.ledger.proofs.Sets.{inserted, entries_entered, others_entered}
use Rattle.ledger.proofs.open_tables.open_new.Goals as goal

pub returns-clause-ok : goal.returns-clause-ok
returns-clause-ok c = λ q. inserted c.args.tables.now.entries _ c.args.t q c.or_insert.result.now (search rules)

pub returns-clause-others : goal.returns-clause-others
returns-clause-others c = others_entered c.args.place c.args.tables.now.entries _ c.args.t (entry_value c.in_ok-tables.field-0) c.in_ok-tables.ensures.value (search rules) (search rules)

pub returns-clause-entries : goal.returns-clause-entries
returns-clause-entries c = entries_entered c.args.place c.args.tables.now.entries _ c.args.t (entry_value c.in_ok-tables.field-0) c.in_ok-tables.ensures.value (search rules) (search rules)
