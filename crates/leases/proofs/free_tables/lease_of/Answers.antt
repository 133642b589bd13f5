use Rattle.std.proofs.Common.{sym, ◌∙◌, ap, map}
use Rattle.std.specs.Option.{option_copied}
use Rattle.ledger.specs.Terms.{same_table}
use Rattle.leases.specs.Leases.{while_live}
use Rattle.leases.specs.inside.{as_lease, without}
use Rattle.leases.proofs.free_tables.lease_of.Goals as goal

pub returns-in-Some : goal.returns-in-Some
unfolding same_table
returns-in-Some c = c.while_lives.ensures ∙ ap (while_live (map as_lease (without c.args.but c.args.live.now))) (sym (sym c.get.ensures.value ∙ ap option_copied c.in-Some.is))

pub returns-in-None : goal.returns-in-None
unfolding same_table
returns-in-None c = ap (while_live (map as_lease (without c.args.but c.args.live.now))) (sym (sym c.get.ensures.value ∙ ap option_copied c.in-None.is))
