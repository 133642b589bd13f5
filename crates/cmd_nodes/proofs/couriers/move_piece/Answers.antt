use Rattle.std.proofs.Common.{◌∙◌, sym, subst}
use Rattle.std.proofs.lemmas.Result.{IfErr-weaker}
use Rattle.cmd_options.specs.declared.ended.Ended.{Ended}
use Rattle.cmd_nodes.specs.Moving.{StopsMoving, way}
use Rattle.cmd_nodes.proofs.Traffic.{broken_reading, broken_writing, of_fault}
use Rattle.cmd_nodes.proofs.couriers.move_piece.Goals as goal

pub returns-in_err-write_piece-clause-broken : goal.returns-in_err-write_piece-clause-broken
returns-in_err-write_piece-clause-broken g c =
    let before = way (g.W.Write.contents c.args.near.now) (g.R.Read.remaining c.args.far.now) c.args.to.now.waiting in
    let after = way (g.W.Write.contents c.write_piece.new.near) (g.R.Read.remaining c.args.far.now) c.args.to.now.waiting in
    of_fault c.from_residual.result (λ (e : Ended). StopsMoving e c.args.piece.now before after) _ c.from_residual.ensures.1
    (λ e is. subst (λ (f : Ended). StopsMoving f c.args.piece.now before after) (sym (is ∙ c.in_err-write_piece.ensures.fault))
    (broken_writing c.args.piece.now c.args.to.now.waiting (g.W.Write.contents c.args.near.now) (g.W.Write.contents c.write_piece.new.near)
    (g.R.Read.remaining c.args.far.now) c.requires c.in_err-write_piece.ensures.err))

pub returns-clause-broken : goal.returns-clause-broken
returns-clause-broken g c =
    IfErr-weaker c.read_piece.result _ _
    (λ e x. broken_reading e c.args.piece.now c.args.to.now.waiting c.read_piece.new.to.waiting (g.W.Write.contents c.args.near.now) (g.W.Write.contents c.write_piece.new.near)
    (g.R.Read.remaining c.args.far.now) (g.R.Read.remaining c.read_piece.new.far) c.requires c.in_ok-write_piece.ensures.ok x)
    c.read_piece.ensures.err
