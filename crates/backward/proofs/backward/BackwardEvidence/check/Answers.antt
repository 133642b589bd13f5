use Rattle.std.proofs.Common.{refl, sym, ◌∙◌, arith, ◌≡◌, ◌<◌, length, get_or, rules, inl}
use Rattle.std.proofs.lemmas.Grind.{get_or_default_zero}
use Rattle.backward.proofs.PathLaws.{done_is, done_not, counted_err, counted_ok, too_wide, not_too_wide, stands_if, none_if}
use Rattle.backward.proofs.backward.BackwardEvidence.check.Goals as goal

-- the run doesn't do its steps: so the claim is neither wide nor so
pub returns-then-not-branch-clause-fails : goal.returns-then-not-branch-clause-fails
returns-then-not-branch-clause-fails c is =
    let not = done_not c.args.t.now c.args.self.now.depth c.in_ok-does_steps.field-0 c.in_ok-does_steps.ensures (search rules) in
    (search rules, λ wide. not wide.at wide.runs, λ stands. not stands.at stands.runs)

pub returns-then-is_err-clause-wide : goal.returns-then-is_err-clause-wide
returns-then-is_err-clause-wide c is =
    let run = done_is c.args.t.now c.args.self.now.depth c.in_ok-does_steps.field-0 c.in_ok-does_steps.ensures (search rules) in
    (search rules, inl (too_wide _ _ run (counted_err c.args.t.now c.args.self.now.depth c.in_ok-count.field-0 c.count.new.self.counts.items c.in_ok-count.ensures.counted (sym c.is_err.ensures.value ∙ c.if-is_err.true))))

pub returns-then-index-eq0-clause-ok : goal.returns-then-index-eq0-clause-ok
returns-then-index-eq0-clause-ok c =
    let depth = c.args.self.now.depth in
    let counts = c.count.new.self.counts.items in
    let run = done_is c.args.t.now depth c.in_ok-does_steps.field-0 c.in_ok-does_steps.ensures (search rules) in
    let counted = counted_ok c.args.t.now depth c.in_ok-count.field-0 counts c.in_ok-count.ensures.counted (sym c.is_err.ensures.value ∙ c.if-is_err.false) in
    let inside : depth < length counts = omega (arith, counted.1) in
    let none : get_or counts depth 0 ≡ 0 = sym (get_or_default_zero counts depth c.index.result.now inside) ∙ sym c.index.ensures ∙ c.if-index-eq0.true in
    (refl, search rules, stands_if _ _ counts run counted.0 inside none, not_too_wide _ _ counts run counted.0 inside)

pub returns-clause-fails : goal.returns-clause-fails
returns-clause-fails c is =
    let depth = c.args.self.now.depth in
    let counts = c.count.new.self.counts.items in
    let run = done_is c.args.t.now depth c.in_ok-does_steps.field-0 c.in_ok-does_steps.ensures (search rules) in
    let counted = counted_ok c.args.t.now depth c.in_ok-count.field-0 counts c.in_ok-count.ensures.counted (sym c.is_err.ensures.value ∙ c.if-is_err.false) in
    let inside : depth < length counts = omega (arith, counted.1) in
    let read : c.index.result.now ≡ get_or counts depth 0 = c.index.ensures ∙ get_or_default_zero counts depth c.index.result.now inside in
    (search rules, not_too_wide _ _ counts run counted.0 inside, λ stands. c.if-index-eq0.false (read ∙ none_if _ _ counts counted.0 inside stands))
