use Rattle.std.proofs.Common.{IsSome, inl, refl, sym, subst}
use Rattle.law_tree.specs.Terms.{IsOpen}
use Rattle.ledger.specs.Records.{mark_in, Contents}
use Rattle.ledger.specs.inside.Counting.{IsOpener}
use Rattle.ledger.specs.inside.Stored.{records_of}
use Rattle.ledger.proofs.OpenLaws.{opener_at}
use Rattle.ledger.proofs.board.Board.unrecorded_footing.Goals as goal

pub returns-in-Some : goal.returns-in-Some
returns-in-Some c =
    let t = c.args.t.now in
    let opener = c.in-Some.opener.now in
    let map = c.self.inside.open_tables in
    let is_open = (c.self.invariant.1.exact t).0 (subst IsSome c.in-Some.ensures.value refl) in
    let opens = opener_at c.self.inside.root (records_of c.self.inside.records.entries) t opener map.entries c.self.invariant.1.openers (sym c.in-Some.ensures.value) in
    inl (
      opener,
      subst (λ (b : Contents). IsOpen b.root (mark_in b.records) t) c.self.view_is is_open,
      subst (λ (b : Contents). IsOpener b.root b.records t opener) c.self.view_is opens,
      refl,
    )
