use Rattle.std.proofs.Common.{◌+◌, sym, ◌∙◌, ap, subst}
use Rattle.ledger.specs.Records.{IsHoldout, Contents, IsBoard}
use Rattle.ledger.specs.inside.Counting.{is_undecided, is_halting, is_never, IsCounted, IsOpenMap}
use Rattle.ledger.specs.Tally.{IsHalting, IsNeverHalting}
use Rattle.ledger.proofs.Numbers.{holdout_number, halting_number, never_number}
use Rattle.ledger.proofs.BoardLaws.{open_number, nodes_counted, kind_counted}
use Rattle.ledger.proofs.board.Board.tally.Goals as goal

pub returns : goal.returns
returns c =
    let b = c.args.self.now in
    let counts = c.self.inside.counts in
    let board = subst IsBoard c.self.view_is c.self.invariant.0 in
    let tables = subst (IsOpenMap c.self.inside.open_tables) c.self.view_is c.self.invariant.1 in
    let counted = subst (λ (b : Contents). IsCounted b.records counts) c.self.view_is c.self.invariant.3 in
    record {
      nodes = nodes_counted b c.self.inside.root c.self.inside.records.entries c.self.inside.format (c.len.result + c.len-2.result) c.len.result c.len-3.result c.self.view_is c.len.ensures.len
          (ap (λ n. c.len.result + n) (c.len-2.ensures.len ∙ sym c.len-3.ensures.len));
      open_count = open_number b c.self.inside.open_tables c.len-3.result tables c.len-3.ensures.len c.len-3.ensures.ordered;
      halting = kind_counted IsHalting is_halting halting_number b counts.halting board counted.halting;
      never = kind_counted IsNeverHalting is_never never_number b counts.never board counted.never;
      holdouts = kind_counted IsHoldout is_undecided holdout_number b counts.undecided board counted.undecided;
      best = counted.best;
      ones = counted.ones;
    }
