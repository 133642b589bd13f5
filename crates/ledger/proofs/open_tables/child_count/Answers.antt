use Rattle.std.proofs.Common.{Option, arith, subst}
use Rattle.machine_text.specs.declared.table.Pair.{Pair}
use Rattle.cert.specs.Terms.{ending_by, IsPairOf, claim_of}
use Rattle.ledger.proofs.OpenLaws.{pair_halts}
use Rattle.ledger.proofs.Sets.{rising_apart}
use Rattle.ledger.proofs.open_tables.child_count.Goals as goal

pub counted-requires : goal.counted-requires
counted-requires c = let few = c.states.type_inv in omega (arith, few, c.children_on.ensures.most, c.states.ensures.states)

pub returns-in-Some-clause-number : goal.returns-in-Some-clause-number
returns-in-Some-clause-number c =
    let known = pair_halts (ending_by (claim_of c.args.r.now.certificate)) c.args.r.now.table c.in-Some.pair
    (subst (λ (o : Option Pair). IsPairOf (ending_by (claim_of c.args.r.now.certificate)) c.args.r.now.table o) c.in-Some.is c.requires.pair) in record {
      tables = c.children_on.result;
      exact = λ t. (λ at. ((known.0, known.1), (c.children_on.ensures.members t).0 at), λ h. (c.children_on.ensures.members t).1 h.1);
      once = rising_apart c.children_on.result c.children_on.ensures.rising;
      is = c.counted.ensures;
    }

pub returns-in-Some-clause-small : goal.returns-in-Some-clause-small
returns-in-Some-clause-small c = let few = c.states.type_inv in omega (arith, few, c.children_on.ensures.most, c.states.ensures.states, c.counted.ensures)
