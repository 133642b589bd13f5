use Rattle.std.proofs.Common.{List, ℕ, ◌++◌, Ok, refl, ◌∙◌, ap, rules}
use Rattle.cert.specs.Terms.{recorded}
use Rattle.ledger.specs.Terms.{gained_line}
use Rattle.ledger.specs.declared.faults.Taken.TheVariants.{New}
use Rattle.lease_core.proofs.DueRecords.{makes}
use Rattle.lease_core.proofs.worker_turns.put.Goals as goal

-- answered by name, so that nothing is offered where an edit makes it false
pub unreachable-requires : goal.unreachable-requires
unreachable-requires c = search rules steps 1000000

pub returns-in-Ok-New-clause-ok : goal.returns-in-Ok-New-clause-ok
returns-in-Ok-New-clause-ok c =
    let b = c.args.board.now in
    let r = recorded c.args.r.now in
    let gives = rw c.in-Ok-New.field-0-is at c.in-Ok-New.ensures.gives in
    let line = rw c.in-Ok-New.field-0-is at c.in-Ok-New.ensures.line in
    makes b c.offer_judged_line.new.self r _ c.root.ensures.board c.requires.first c.requires.few c.requires.scored gives c.in-Ok-New.ensures.kept.root c.in-Ok-New.ensures.kept.format (record {
      cut_is = refl;
      append_is = line ∙ ap (λ (l : List ℕ). l ++ gained_line b.format r (Ok New)) c.new-append.ensures.items;
      frames_are = c.in_ok-frames.ensures;
      note_is = refl;
    })
