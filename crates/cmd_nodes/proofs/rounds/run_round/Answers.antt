use Rattle.std.proofs.Common.{◌∙◌, ◌<◌, ℕ, arith, length, length-set, subst, sym}
use Rattle.std.proofs.lemmas.List.{get_or_read}
use Rattle.cmd_nodes.specs.Served.{TakesRound}
use Rattle.cmd_nodes.specs.declared.rounds.Station.{Station}
use Rattle.cmd_nodes.proofs.Coordinators.{one_by_one}
use Rattle.cmd_nodes.proofs.NodeRounds.{each_done, each_written, rest_left}
use Rattle.cmd_nodes.proofs.rounds.run_round.Goals as goal

pub loop-station-preserved : goal.loop-station-preserved
loop-station-preserved g c =
    let inv = c.loop-station.invariant in
    let old = c.args.stations.now.items in
    let at = c.loop-station.station-items in
    let i : ℕ = c.loop-station.station-index in
    let within : i < length at = omega arith in
    let Took = λ (s t : Station g.row.N.Denot g.row.Y.Denot). TakesRound g.N.Node.answers c.args.round s.worker t.worker in
    record {
      served =
          one_by_one c.args.coordinator.now c.loop-station.coordinator c.take_round.new.coordinator (g.L.LedgerOut.text c.args.ledger.now) (g.L.LedgerOut.text c.loop-station.ledger)
          (g.L.LedgerOut.text c.take_round.new.ledger) inv.served c.in_ok-take_round.ensures.served;
      many = length-set at i c.take_round.new.self ∙ inv.many;
      taken =
          each_done Took old at i c.take_round.new.self within inv.taken inv.left
          (λ d. subst (λ (s : Station g.row.N.Denot g.row.Y.Denot). Took s c.take_round.new.self) (sym c.station-item.is ∙ get_or_read at i c.station-item.result within c.station-item.is d)
          c.in_ok-take_round.ensures.taken);
      left = rest_left Took old at i c.take_round.new.self within inv.taken inv.left;
    }

pub returns-clause-taken : goal.returns-clause-taken
returns-clause-taken g c =
    let inv = c.loop-station.invariant in
    each_written (TakesRound g.N.Node.answers c.args.round) c.args.stations.now.len c.args.stations.now.items c.loop-station.station-items (omega arith) inv.many
    (λ k d less. inv.taken k d (omega arith))
