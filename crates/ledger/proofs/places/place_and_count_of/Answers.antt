use Rattle.std.proofs.Common.{refl, sym, ◌∙◌, ap}
use Rattle.std.specs.Option.{option_copied}
use Rattle.ledger.specs.Records.{same_table}
use Rattle.ledger.proofs.Claims.{holdout_there}
use Rattle.ledger.proofs.places.place_and_count_of.Goals as goal

pub unreachable-requires : goal.unreachable-requires
unfolding same_table
unreachable-requires c = holdout_there c.args.records.now.entries c.args.t.now c.requires (sym c.get.ensures.value ∙ ap option_copied c.in-None.is)

pub returns : goal.returns
unfolding same_table
returns c = (c.in-Some.stored.now, sym c.get.ensures.value ∙ ap option_copied c.in-Some.is, rw (c.parent.ensures, c.tree.ensures) refl)
