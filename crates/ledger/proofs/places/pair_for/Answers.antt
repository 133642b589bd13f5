use Rattle.std.proofs.Common.{sym, ◌∙◌, ap}
use Rattle.std.specs.Option.{option_copied}
use Rattle.cert.specs.Terms.{owned_claim}
use Rattle.ledger.specs.Records.{same_table}
use Rattle.ledger.specs.inside.Stored.{records_of}
use Rattle.ledger.proofs.Claims.{found_claim, no_claim, found_pair}
use Rattle.ledger.proofs.OpenLaws.{pair_some, pair_none, unrecorded_pair}
use Rattle.ledger.proofs.places.pair_for.Goals as goal

pub returns-in-Some-clause-some : goal.returns-in-Some-clause-some
unfolding same_table
returns-in-Some-clause-some c =
    let es = c.args.records.now.entries in
    let kept = c.in-Some.stored.now in
    let found = sym c.get.ensures.value ∙ ap option_copied c.in-Some.is in
    rw c.halts_on.ensures (pair_some (records_of es) c.args.t.now (owned_claim kept.certificate) kept.halts_on (found_claim es c.args.t.now kept found) (found_pair es c.args.t.now kept c.requires found))

pub returns-in-Some-clause-none : goal.returns-in-Some-clause-none
unfolding same_table
returns-in-Some-clause-none c =
    let es = c.args.records.now.entries in
    let kept = c.in-Some.stored.now in
    let found = sym c.get.ensures.value ∙ ap option_copied c.in-Some.is in
    rw c.halts_on.ensures (pair_none (records_of es) c.args.t.now (owned_claim kept.certificate) kept.halts_on (found_claim es c.args.t.now kept found) (found_pair es c.args.t.now kept c.requires found))

pub returns-in-None-clause-none : goal.returns-in-None-clause-none
unfolding same_table
returns-in-None-clause-none c = unrecorded_pair (records_of c.args.records.now.entries) c.args.t.now (no_claim c.args.records.now.entries c.args.t.now (sym c.get.ensures.value ∙ ap option_copied c.in-None.is))
