use Rattle.std.proofs.Common.{◌≡◌, ◌+◌, ◌++◌, ◌∷◌, [], ℕ, List, length, take_all, subst, sym, ◌∙◌, arith, append_assoc, length-append}
use Rattle.ledger.specs.Loading.{IsStageOf}
use Rattle.ledger.specs.declared.loading.FeedStop.{FeedStop}
use Rattle.ledger.specs.declared.loading.Stage.{Stage}
use Rattle.ledger.specs.declared.loading.Stage.TheVariants.{Header}
use Rattle.ledger.specs.inside.Taking.{IsHeaded}
use Rattle.ledger.proofs.StageLaws.{header_grows, refused_grows, headed, records_stop, if_err}
use Rattle.ledger.proofs.loading.end_line.Goals as goal

pub returns-in-Ok-clause-ok : goal.returns-in-Ok-clause-ok
returns-in-Ok-clause-ok c text size is =
    let root = c.args.root.now in
    let part = c.args.part.now in
    let was = subst (λ (s : Stage). IsStageOf root text s) c.in-Header.is is in
    let grown = header_grows root text part c.in-Header.line c.add.new.self c.requires.part c.add.ensures was in
    let all : length (text ++ part) + 1 ≡ c.args.after = omega (arith, size, length-append text part) in
    subst (λ (l : List ℕ). IsStageOf root l c.in-Ok.next) (append_assoc text part (10 ∷ [])) (c.in-Ok.ensures.ok (text ++ part) all grown.0 (c.bytes.ensures ∙ grown.1))

pub returns-in-Err-clause-stopped : goal.returns-in-Err-clause-stopped
returns-in-Err-clause-stopped c =
    let root = c.args.root.now in
    let part = c.args.part.now in
    let grows : (text : List ℕ) → IsStageOf root text c.args.stage.now → IsStageOf root (text ++ part) (Header c.add.new.self) =
    λ text is. header_grows root text part c.in-Header.line c.add.new.self c.requires.part c.add.ensures (subst (λ (s : Stage). IsStageOf root text s) c.in-Header.is is) in
    record {
      within = omega arith;
      grows = λ text is. subst (λ (l : List ℕ). IsStageOf root (text ++ l) (Header c.add.new.self)) (sym (take_all (length part) part (omega arith))) (grows text is);
      headed = λ text is.
          let grown = grows text is in
          subst (λ (l : List ℕ). IsHeaded root l) (append_assoc text part (10 ∷ []))
          (headed root (text ++ part) c.bytes.result.now grown.0 (c.bytes.ensures ∙ grown.1) c.in-Err.ensures.err.0 c.in-Err.ensures.err.1);
    }

pub returns-in-Records-clause-stopped : goal.returns-in-Records-clause-stopped
returns-in-Records-clause-stopped c =
    if_err c.end_line.result
    (λ (stop : FeedStop) stops. records_stop c.args.root.now c.args.stage.now c.in-Records.body c.end_line.new.self c.args.part.now stop.taken c.in-Records.is stops)
    c.end_line.ensures.stopped

pub returns-in-Refused-clause-ok : goal.returns-in-Refused-clause-ok
returns-in-Refused-clause-ok c text size is =
    let more = c.args.part.now ++ (10 ∷ []) in
    subst (λ (s : Stage). IsStageOf c.args.root.now (text ++ more) s) (sym c.in-Refused.is)
    (refused_grows c.args.root.now text more c.in-Refused.field-0 (subst (λ (s : Stage). IsStageOf c.args.root.now text s) c.in-Refused.is is))
