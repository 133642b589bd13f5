use Rattle.std.proofs.Common.{sym, ◌∙◌, ap, option_map}
use Rattle.cert.specs.Terms.{claim_of}
use Rattle.ledger.specs.Records.{same_table}
use Rattle.ledger.proofs.Claims.{differ}
use Rattle.ledger.proofs.open_tables.is_unrecorded.Goals as goal

pub returns-in-Some : goal.returns-in-Some
returns-in-Some c = (λ h. absurd (cc), λ h. let claimed = ap (option_map claim_of) c.in-Some.is in absurd (cc (c.certificate_for.ensures, claimed, h.0)))

pub returns-in-None : goal.returns-in-None
unfolding same_table
returns-in-None c =
    let ne = differ c.args.t.now c.args.parent.now c.ne.result c.ne.ensures in
    let none = sym c.certificate_for.ensures ∙ ap (option_map claim_of) c.in-None.is in
    (λ h. (none, ne.0 h), λ h. ne.1 h.1)
