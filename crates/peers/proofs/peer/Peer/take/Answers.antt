use Rattle.std.proofs.Common.{◌≡◌, ◌∙◌, Some, ap, subst, sym}
use Rattle.wire.specs.Terms.{scene, TakesPiece}
use Rattle.peers.specs.declared.guarded.Guarded.{Guarded}
use Rattle.peers.specs.Guard.{GuardState}
use Rattle.peers.specs.Peers.{StoppedWithin, Through, behind, PeerState}
use Rattle.peers.specs.Served.{scene_with}
use Rattle.peers.proofs.peer.Peer.take.Goals as goal

pub returns-clause-taken : goal.returns-clause-taken
returns-clause-taken g c =
    let answers = Through g.N.Node.answers in
    let is_stopped = StoppedWithin g.N.Node.is_stopped in
    let before = g.W.LedgerOut.text c.args.ledger.now in
    let after = g.W.LedgerOut.text c.hand_piece-taken.new.ledger in
    let heard = c.hand_piece-taken.new.node in
    let due = c.hand_piece-taken.new.link.due in
    let again : behind c.exchange_guard-2.new.guard c.exchange_guard-2.new.self ≡ heard =
    ap (λ (n : Guarded g.row.N.Denot). behind c.exchange_guard-2.new.guard n) c.exchange_guard-2.ensures.node
    ∙ ap (λ (guard : GuardState). behind guard heard) c.exchange_guard-2.ensures.guard in
    subst
    (λ (n : Guarded g.row.N.Denot). TakesPiece answers is_stopped (scene_with c.args.node.now before c.args.self.now) c.args.self.now.lines c.args.piece.now
    c.hand_piece-taken.result c.hand_piece-taken.new.lines (scene n after (Some due)))
    (sym again)
    (subst
    (λ (p : PeerState). TakesPiece answers is_stopped (scene_with c.args.node.now before p) p.lines c.args.piece.now c.hand_piece-taken.result
    c.hand_piece-taken.new.lines (scene heard after (Some due)))
    c.self.view_is
    (subst
    (λ (n : Guarded g.row.N.Denot). TakesPiece answers is_stopped (scene n before (Some c.self.inside.outbox.due)) c.self.inside.lines c.args.piece.now
    c.hand_piece-taken.result c.hand_piece-taken.new.lines (scene heard after (Some due)))
    c.exchange_guard.ensures.node c.hand_piece-taken.ensures.taken))
