use Rattle.std.proofs.Common.{◌≡◌, ap, subst, sym, ◌∙◌, arith}
use Rattle.std.specs.Prelude.{OnOk, IsOk, map}
use Rattle.text.specs.Terms.{IsShort}
use Rattle.text.proofs.Cuts.{split_at_cut, split_nowhere}
use Rattle.wire.specs.Fulfilled.{fed, known}
use Rattle.wire.proofs.LineLaws.{moved, moved_short, moved_lines, line_fed, lines_fed, when_ok}
use Rattle.wire.proofs.lines.Lines.feed.Goals as goal

pub returns-in_default-clause-ok : goal.returns-in_default-clause-ok
returns-in_default-clause-ok c =
    let waiting = map known c.self.inside.waiting.items in
    let new = c.take.new.self in
    subst (λ s. OnOk c.take.result (record { waiting = waiting; rest = new } ≡ fed s c.args.piece.now)) c.self.view_is
    (line_fed c.take.result waiting c.self.inside.rest new c.args.piece.now (split_nowhere 10 c.args.piece.now c.in_default.ensures.cut) c.take.ensures.ok)

pub invariant_of-self-2 : goal.invariant_of-self-2
invariant_of-self-2 c =
    let room : IsOk c.append.result = c.append.ensures.succeeds (omega (arith, c.in_ok-reserve.ensures.ok, c.push_back_reserved.ensures, c.len.ensures, c.reserve.ensures.len)) in
    let m = moved c.append.result _ _ _ _ _ _ c.reserve.ensures.items c.push_back_reserved.ensures.items room c.append.ensures.items in
    let rest : IsShort c.replace-line.new.dest = subst IsShort (sym c.replace-line.ensures.after) c.in_ok-more.ensures.within.1 in
    (moved_short _ _ _ _ m c.self.invariant.0 c.of.ensures.short c.in_ok-more.ensures.within.0, rest)

pub returns-clause-ok : goal.returns-clause-ok
returns-clause-ok c =
    let room : IsOk c.append.result = c.append.ensures.succeeds (omega (arith, c.in_ok-reserve.ensures.ok, c.push_back_reserved.ensures, c.len.ensures, c.reserve.ensures.len)) in
    let m = moved c.append.result _ _ _ _ _ _ c.reserve.ensures.items c.push_back_reserved.ensures.items room c.append.ensures.items in
    let one = c.of.ensures.known ∙ c.replace-line.ensures.value ∙ c.in_ok-take.ensures.ok in
    let rest = c.replace-line.ensures.after ∙ c.in_ok-more.ensures.rest in
    let cut = split_at_cut 10 c.args.piece.now c.in-Some.end.now c.in-Some.left.now c.in-Some.ensures.cut in
    let lines = moved_lines _ _ _ _ _ _ _ _ m one c.in_ok-more.ensures.lines cut in
    when_ok c.append.result _ _ (lines_fed _ _ _ _ _ _ _ lines rest cut ∙ ap (λ s. fed s c.args.piece.now) c.self.view_is)
