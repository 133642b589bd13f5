use Rattle.std.proofs.Common.{◌≡◌, ℕ, List, [], ◌∷◌, ◌++◌, length, sym, ap, ◌∙◌, subst, arith, append_assoc, append-nil, length-append}
use Rattle.ledger.specs.Loading.{IsFed}
use Rattle.ledger.proofs.StageLaws.{fed_more, stop_at}
use Rattle.ledger.proofs.loading.Loader.feed.Goals as goal

pub returns-in-Err-clause-stopped : goal.returns-in-Err-clause-stopped
returns-in-Err-clause-stopped c =
    let (done, is, fed) = c.loop-line.invariant in
    let line = c.in-Some.line.now in
    stop_at c.args.self.now c.loop-line.self c.end_line.new.self c.args.piece.now done c.loop-line.rest.now (line ++ (10 ∷ [])) c.in-Some.after.now c.in-Err.stop _ is
    (c.in-Some.ensures.some.is ∙ sym (append_assoc line (10 ∷ []) c.in-Some.after.now)) fed c.in-Err.ensures.stopped (omega (arith, ap length is, length-append done c.loop-line.rest.now))

pub loop-line-preserved : goal.loop-line-preserved
loop-line-preserved c =
    let (done, is, fed) = c.loop-line.invariant in
    let line = c.in-Some.line.now in
    let cut : c.loop-line.rest.now ≡ (line ++ (10 ∷ [])) ++ c.in-Some.after.now =
    c.in-Some.ensures.some.is ∙ sym (append_assoc line (10 ∷ []) c.in-Some.after.now) in (
      done ++ (line ++ (10 ∷ [])),
      is ∙ (ap (λ (l : List ℕ). done ++ l) cut ∙ sym (append_assoc done (line ++ (10 ∷ [])) c.in-Some.after.now)),
      fed_more c.args.self.now c.loop-line.self c.end_line.new.self done (line ++ (10 ∷ [])) fed c.in_default-end_line.ensures.ok,
    )

pub returns-in-Ok-clause-ok : goal.returns-in-Ok-clause-ok
returns-in-Ok-clause-ok c =
    let (done, is, fed) = c.loop-line.invariant in
    subst (λ (l : List ℕ). IsFed c.args.self.now l c.add.new.self) (sym is) (fed_more c.args.self.now c.loop-line.self c.add.new.self done c.loop-line.rest.now fed c.in-Ok.ensures.ok)

pub returns-in-Err-add-clause-stopped : goal.returns-in-Err-add-clause-stopped
returns-in-Err-add-clause-stopped c =
    let (done, is, fed) = c.loop-line.invariant in
    stop_at c.args.self.now c.loop-line.self c.add.new.self c.args.piece.now done c.loop-line.rest.now c.loop-line.rest.now [] c.in-Err-add.stop _ is
    (sym (append-nil c.loop-line.rest.now)) fed c.in-Err-add.ensures.stopped (omega (arith, ap length is, length-append done c.loop-line.rest.now))
