use Rattle.std.proofs.Common.{◌≡◌, ◌∙◌, sym, ap, subst, ℕ, List, ◌++◌, append_assoc, take-append-drop}
use Rattle.cmd_options.specs.declared.ended.Ended.{Ended}
use Rattle.cmd_nodes.specs.Moving.{StopsMoving, way}
use Rattle.cmd_nodes.proofs.Traffic.{broken_on, inbox_alone, moved_on, of_fault}
use Rattle.cmd_nodes.proofs.couriers.move_pieces.Goals as goal

pub returns-in_err-move_piece-clause-broken : goal.returns-in_err-move_piece-clause-broken
returns-in_err-move_piece-clause-broken g c =
    let inv = c.pieces.invariant.moved in
    let before = way (g.W.Write.contents c.args.near.now) (g.R.Read.remaining c.args.far.now) c.args.to.now.waiting in
    let middle = way (g.W.Write.contents c.pieces.near) (g.R.Read.remaining c.pieces.far) c.pieces.to.waiting in
    let after = way (g.W.Write.contents c.move_piece.new.near) (g.R.Read.remaining c.move_piece.new.far) c.move_piece.new.to.waiting in
    let cut : c.pieces.left.now ≡ c.split_at.result.0.now ++ c.split_at.result.1.now = rw (c.split_at.ensures.front, c.split_at.ensures.back) (sym (take-append-drop _ _)) in
    of_fault c.from_residual.result (λ (e : Ended). StopsMoving e c.args.sent.now before after) _ c.from_residual.ensures.1
    (λ e is. subst (λ (f : Ended). StopsMoving f c.args.sent.now before after) (sym is)
    (broken_on _ inv.0 c.split_at.result.0.now c.split_at.result.1.now c.args.sent.now before middle after inv.2 c.in_err-move_piece.ensures.broken
    (inv.1 ∙ ap (λ (l : List ℕ). inv.0 ++ l) cut)))

pub pieces-preserved : goal.pieces-preserved
pieces-preserved g c =
    let inv = c.pieces.invariant.moved in
    let piece : List ℕ = c.split_at.result.0.now in
    let rest : List ℕ = c.split_at.result.1.now in
    let cut : c.pieces.left.now ≡ c.split_at.result.0.now ++ c.split_at.result.1.now = rw (c.split_at.ensures.front, c.split_at.ensures.back) (sym (take-append-drop _ _)) in
    record {
      moved = (
        inv.0 ++ piece,
        inv.1 ∙ (ap (λ (l : List ℕ). inv.0 ++ l) cut ∙ sym (append_assoc inv.0 piece rest)),
        moved_on inv.0 piece (way (g.W.Write.contents c.args.near.now) (g.R.Read.remaining c.args.far.now) c.args.to.now.waiting)
            (way (g.W.Write.contents c.pieces.near) (g.R.Read.remaining c.pieces.far) c.pieces.to.waiting)
            (way (g.W.Write.contents c.move_piece.new.near) (g.R.Read.remaining c.move_piece.new.far) c.move_piece.new.to.waiting) inv.2 c.in_ok-move_piece.ensures.moved,
      );
      inbox = inbox_alone c.args.to.now c.pieces.to c.move_piece.new.to c.move_piece.new.to.waiting c.move_piece.ensures.inbox c.pieces.invariant.inbox;
    }
