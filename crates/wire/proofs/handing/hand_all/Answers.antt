use Rattle.std.proofs.Common.{◌≡◌, ◌∙◌, refl, sym, subst, ap, List, ℕ, []}
use Rattle.std.specs.Prelude.{Option, IfErr, IfSome}
use Rattle.std.proofs.lemmas.Result.{on_ok_weaker, IfErr-weaker}
use Rattle.text.specs.Terms.{BoundedLine}
use Rattle.wire.specs.Fulfilled.{grown, kept_text, scene, Stream, IsBroken, events_of}
use Rattle.wire.specs.inside.{HasGathered}
use Rattle.wire.proofs.Answers.{handed_none, at_scene, gathered_none, gathered_whole, grown_none, lines_left, uncut_text, unfulfilled}
use Rattle.wire.proofs.handing.hand_all.Goals as goal

pub lines-init : goal.lines-init
lines-init g c =
    let text = g.W.LedgerOut.text c.args.ledger.now in
    let events = events_of c.args.lines.now.waiting in
    let nothing = c.nothing-gathered.ensures in
    let same : kept_text c.nothing-gathered.result text ≡ text = uncut_text c.nothing-gathered.result text nothing.cut ∙ ap (λ (xs : List ℕ). grown text xs) nothing.append ∙ grown_none text in
    record {
      gathers = gathered_none g.N.Node.answers _ events events text (g.L.Link.sent c.args.link.now) c.nothing-gathered.result c.args.node.now
          (handed_none g.N.Node.answers _ events) nothing.cut nothing.append nothing.frames;
      rest = refl;
      step = λ h. subst (λ (t : Option (List ℕ)). IfSome t (g.N.Node.in_step c.args.node.now)) (sym same) h;
      link_count = refl;
      ledger_count = refl;
      waiting = refl;
    }

pub returns-clause-ok : goal.returns-clause-ok
returns-clause-ok g c =
    let answers = g.N.Node.answers in
    let old = scene c.args.node.now (g.W.LedgerOut.text c.args.ledger.now) (g.L.Link.sent c.args.link.now) in
    let events = events_of c.args.lines.now.waiting in
    let text = g.W.LedgerOut.text c.lines.ledger in
    let none = c.in_default.ensures.none in
    let gathers : HasGathered answers old events [] text (g.L.Link.sent c.lines.link) c.lines.gathered c.lines.node =
    subst (λ (w : List BoundedLine). HasGathered answers old events (events_of w) text (g.L.Link.sent c.lines.link) c.lines.gathered c.lines.node) none.0 c.lines.invariant.gathers in
    on_ok_weaker c.fulfil.result
    (λ p. (
      at_scene answers old events [] _ _ _ _ _ _ p.0 (p.1 ∙ uncut_text c.lines.gathered text gathers.cut) p.2 (gathered_whole answers old events [] text _ c.lines.gathered c.lines.node gathers),
      none.1 ∙ lines_left c.lines.lines c.args.lines.now none.0 c.lines.invariant.rest,
    ))
    c.fulfil.ensures.ok

pub returns-clause-err : goal.returns-clause-err
returns-clause-err g c =
    let answers = g.N.Node.answers in
    let old = scene c.args.node.now (g.W.LedgerOut.text c.args.ledger.now) (g.L.Link.sent c.args.link.now) in
    let events = events_of c.args.lines.now.waiting in
    let none = c.in_default.ensures.none in
    let new = scene c.fulfil.new.node (g.W.LedgerOut.text c.fulfil.new.ledger) (g.L.Link.sent c.fulfil.new.link) in
    subst (λ (s : Stream). IfErr c.fulfil.result (λ fault. IsBroken answers g.N.Node.is_stopped old c.args.lines.now fault s new)) (sym none.1)
    (IfErr-weaker c.fulfil.result _ _ (λ fault broken. (broken, c.lines.invariant.rest))
    (unfulfilled answers g.N.Node.is_stopped old events [] (events_of c.lines.lines.waiting) (g.W.LedgerOut.text c.lines.ledger) (g.L.Link.sent c.lines.link) c.lines.gathered c.lines.node c.lines.node
    c.lines.invariant.gathers refl new c.fulfil.result c.fulfil.ensures.faults
    (λ e. let q = c.fulfil.ensures.link e in (q.0, q.1, q.2))
    (λ e. let q = c.fulfil.ensures.ledger e in (q.0, q.1, q.2))))
