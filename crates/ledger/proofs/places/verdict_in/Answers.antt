use Rattle.std.proofs.Common.{sym, ◌∙◌, ap}
use Rattle.std.specs.Option.{option_copied}
use Rattle.ledger.specs.Records.{same_table, shown_where}
use Rattle.ledger.proofs.Claims.{found_claim, found_score, no_claim}
use Rattle.ledger.proofs.places.verdict_in.Goals as goal

pub verdict-requires : goal.verdict-requires
unfolding same_table
verdict-requires c = found_score c.args.records.now.entries c.args.t.now c.in-Some.stored.now c.requires (sym c.get.ensures.value ∙ ap option_copied c.in-Some.is)

pub returns-in-Some : goal.returns-in-Some
unfolding same_table
returns-in-Some c =
    c.verdict.ensures
    ∙ ap (shown_where c.args.t.now) (sym (found_claim c.args.records.now.entries c.args.t.now c.in-Some.stored.now (sym c.get.ensures.value ∙ ap option_copied c.in-Some.is)))

pub returns-in-None : goal.returns-in-None
unfolding same_table
returns-in-None c = ap (shown_where c.args.t.now) (sym (no_claim c.args.records.now.entries c.args.t.now (sym c.get.ensures.value ∙ ap option_copied c.in-None.is)))
