use Rattle.std.proofs.Common.{◌∙◌, ◌≢◌, List, None, Option, Some, ap, subst}
use Rattle.std.specs.Prelude.{IfErr}
use Rattle.wire.specs.declared.handing.TurnFault.TheVariants.{LinkFault}
use Rattle.wire.specs.Terms.{BrokenOff, scene, Happening}
use Rattle.peers.specs.Peers.{PeerState}
use Rattle.peers.specs.Served.{returned_at}
use Rattle.peers.proofs.peers.Peers.leave.Goals as goal

pub returns-in-Some-clause-err : goal.returns-in-Some-clause-err
returns-in-Some-clause-err g c =
    let there = ap Some c.deref.ensures ∙ c.in-Some.ensures.gone in
    subst
    (λ (p : Option PeerState). IfErr c.give_back.result (λ fault. (fault ≢ LinkFault) × ((left : List Happening)
    × BrokenOff g.N.Node.answers g.N.Node.is_stopped (scene c.args.node.now.node (g.W.LedgerOut.text c.args.ledger.now) None) (returned_at p) fault left
    (scene c.give_back.new.node (g.W.LedgerOut.text c.give_back.new.ledger) None))))
    there c.give_back.ensures.err
