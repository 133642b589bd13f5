use Rattle.std.proofs.Common.{sym, ◌∙◌, ap, option_map}
use Rattle.ledger.specs.Records.{same_table}
use Rattle.ledger.proofs.Claims.{holdout_place, holdout_there}
use Rattle.ledger.proofs.places.place_of.Goals as goal

pub unreachable-requires : goal.unreachable-requires
unfolding same_table
unreachable-requires c = holdout_there c.args.records.now.entries c.args.t.now c.requires (sym c.get_full.ensures.value ∙ ap (option_map (λ p. p.2.now)) c.in-None.is)

pub returns-clause-place : goal.returns-clause-place
unfolding same_table
returns-clause-place c =
    holdout_place c.args.records.now.entries c.args.t.now c.in-Some.field-0-1.now c.in-Some.field-0-2.now c.in-Some.place c.requires c.in-Some.ensures.entry c.in-Some.ensures.key c.in-Some.ensures.value
