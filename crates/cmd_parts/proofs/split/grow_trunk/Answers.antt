use Rattle.std.proofs.Common.{◌∙◌, Ok, false}
use Rattle.std.proofs.lemmas.Result.{err_from_is_err_and}
use Rattle.cmd_ledgers.specs.Terms.{AtSomeTime}
use Rattle.cmd_parts.specs.Settle.{IsOpenBelow}
use Rattle.cmd_parts.proofs.SplitTrees.{grows_so, leaves_so, same_root}
use Rattle.cmd_parts.proofs.split.grow_trunk.Goals as goal

pub returns-clause-grows : goal.returns-clause-grows
returns-clause-grows g c =
    let A = AtSomeTime _ g.D.Decider.answers in
    let grown = c.in_ok-grow.ensures in
    grows_so (λ t. g.G.Folder.sees c.args.folder.now t (Ok false)) A c.args.n c.args.limit c.requires.0 c.requires.1 _ _ _ _ c.in_ok-board.board c.grow.new.board c.in_ok-board.left c.in_ok-board.bytes c.in_ok-board.ensures
    c.in_ok-refuse_parts.ensures grown.settled grown.all grown.step

pub returns-clause-root : goal.returns-clause-root
returns-clause-root g c =
    let A = AtSomeTime _ g.D.Decider.answers in
    let settled = c.in_ok-grow.ensures.settled in
    same_root A (IsOpenBelow c.args.limit) settled.0 c.in_ok-board.board c.grow.new.board _ _ settled.1 ∙ c.in_ok-board.ensures.3.0

pub returns-in_err-grow-clause-leaves : goal.returns-in_err-grow-clause-leaves
returns-in_err-grow-clause-leaves g c =
    let A = AtSomeTime _ g.D.Decider.answers in
    let p = err_from_is_err_and c.from_residual-in_err-grow.result c.from_residual-in_err-grow.ensures.1 in
    rw p.1 (leaves_so (λ t. g.G.Folder.sees c.args.folder.now t (Ok false)) A c.args.n c.args.limit _ _ _ _ c.in_ok-board.board c.in_ok-board.left c.in_ok-board.bytes c.in_ok-board.ensures
    c.in_ok-refuse_parts.ensures c.in_err-grow.ensures.leaves)
