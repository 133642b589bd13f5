use Rattle.std.proofs.Common.{subst, Option}
use Rattle.cert.specs.Terms.{ending_by, IsPairOf, claim_of, recorded}
use Rattle.machine_text.specs.declared.table.Pair.{Pair}
use Rattle.ledger.specs.inside.Stored.{records_of}
use Rattle.ledger.proofs.OpenLaws.{pair_halts, new_children, on_ok, none_at}
use Rattle.ledger.proofs.open_tables.open_children.Goals as goal

pub returns-in-Some-clause-ok : goal.returns-in-Some-clause-ok
returns-in-Some-clause-ok c =
    let known = pair_halts (ending_by (claim_of c.args.r.now.certificate)) c.args.r.now.table c.in-Some.pair
    (subst (λ (o : Option Pair). IsPairOf (ending_by (claim_of c.args.r.now.certificate)) c.args.r.now.table o) c.in-Some.is c.requires.pair) in
    on_ok c.open_all.result (λ more. λ q. new_children (records_of c.args.records.now.entries) (recorded c.args.r.now) known.0 c.children_on.result q _ _ known.1 c.children_on.ensures.members (more q)) c.open_all.ensures.ok

pub returns-in-None-clause-children : goal.returns-in-None-clause-children
returns-in-None-clause-children c = none_at c.args.place c.args.r.now.table c.args.tables.now.entries c.requires.none
