use Rattle.std.proofs.Common.{subst, rules}
use Rattle.law_tree.specs.Terms.{IsOpen}
use Rattle.ledger.specs.Records.{mark_in, IsHoldout, Contents, IsBoard}
use Rattle.ledger.specs.inside.Counting.{is_undecided, IsCounted, IsOpenMap}
use Rattle.ledger.proofs.BoardLaws.{open_number, kind_counted, none_of}
use Rattle.ledger.proofs.Numbers.{holdout_number}
use Rattle.ledger.proofs.board.Board.standing.Goals as goal

pub returns-then-open_count-gt0 : goal.returns-then-open_count-gt0
returns-then-open_count-gt0 c =
    let tables = subst (IsOpenMap c.self.inside.open_tables) c.self.view_is c.self.invariant.1 in
    (search rules, open_number c.args.self.now c.self.inside.open_tables c.len-open_count.result tables c.len-open_count.ensures.len c.len-open_count.ensures.ordered)

pub returns-then-holdout_count-gt0 : goal.returns-then-holdout_count-gt0
returns-then-holdout_count-gt0 c =
    let tables = subst (IsOpenMap c.self.inside.open_tables) c.self.view_is c.self.invariant.1 in
    let counted = subst (λ (b : Contents). IsCounted b.records c.self.inside.counts) c.self.view_is c.self.invariant.3 in
    let opened = open_number c.args.self.now c.self.inside.open_tables c.len-open_count.result tables c.len-open_count.ensures.len c.len-open_count.ensures.ordered in (
      none_of (IsOpen c.args.self.now.root (mark_in c.args.self.now.records)) c.len-open_count.result opened (search rules),
      search rules,
      kind_counted IsHoldout is_undecided holdout_number c.args.self.now c.self.inside.counts.undecided (subst IsBoard c.self.view_is c.self.invariant.0) counted.undecided,
    )

pub returns : goal.returns
returns c =
    let tables = subst (IsOpenMap c.self.inside.open_tables) c.self.view_is c.self.invariant.1 in
    let counted = subst (λ (b : Contents). IsCounted b.records c.self.inside.counts) c.self.view_is c.self.invariant.3 in
    let opened = open_number c.args.self.now c.self.inside.open_tables c.len-open_count.result tables c.len-open_count.ensures.len c.len-open_count.ensures.ordered in
    let holdouts = kind_counted IsHoldout is_undecided holdout_number c.args.self.now c.self.inside.counts.undecided (subst IsBoard c.self.view_is c.self.invariant.0) counted.undecided in (
      record {
        none_open = none_of (IsOpen c.args.self.now.root (mark_in c.args.self.now.records)) c.len-open_count.result opened (search rules);
        no_holdout = none_of (IsHoldout c.args.self.now.records) c.self.inside.counts.undecided holdouts (search rules);
      },
      counted.best,
      counted.ones,
    )
