use Rattle.std.proofs.Common.{sym, ◌∙◌, ap}
use Rattle.std.specs.Prelude.{Some}
use Rattle.std.specs.Option.{option_copied}
use Rattle.ledger.specs.Records.{same_table}
use Rattle.ledger.proofs.Claims.{found_claim, no_claim}
use Rattle.ledger.proofs.places.certificate_for.Goals as goal

pub returns-in-Some : goal.returns-in-Some
unfolding same_table
returns-in-Some c = ap Some c.lent.ensures ∙ sym (found_claim c.args.records.now.entries c.args.t.now c.in-Some.stored.now (sym c.get.ensures.value ∙ ap option_copied c.in-Some.is))

pub returns-in-None : goal.returns-in-None
unfolding same_table
returns-in-None c = sym (no_claim c.args.records.now.entries c.args.t.now (sym c.get.ensures.value ∙ ap option_copied c.in-None.is))
