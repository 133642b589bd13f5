use Rattle.std.proofs.Common.{◌∙◌, Ok, Err, List, [], sym, subst, ap}
use Rattle.std.proofs.lemmas.Result.{err_from_is_err_and}
use Rattle.text.specs.Terms.{BoundedLine}
use Rattle.wire.specs.Terms.{Stream, known}
use Rattle.peers.specs.Crew.{hall, HearsAll}
use Rattle.peers.proofs.Cores.{heard_fault, heard_more, heard_none}
use Rattle.peers.proofs.pool.Pool.hear_all.Goals as goal

pub returns-in_err-hear_line-clause-hears : goal.returns-in_err-hear_line-clause-hears
returns-in_err-hear_line-clause-hears g c =
    let p = err_from_is_err_and c.from_residual.result c.from_residual.ensures.1 in
    let at = hall c.lines.self-inside.crew (g.L.Link.sent c.lines.link) in
    let new = hall c.hear_line.new.self (g.L.Link.sent c.hear_line.new.link) in
    let waits = ap (λ (s : Stream). s.waiting) c.in-Some.ensures.some in
    rw (p.1, p.2)
    (c.lines.invariant.hears (Err c.in_err-hear_line.field-0.0) c.next.new.self.waiting new
    (subst (λ (lines : List BoundedLine). HearsAll g.N.Node.answers g.N.Node.is_stopped g.W.LedgerOut.text lines (Err c.in_err-hear_line.field-0.0) c.next.new.self.waiting at new)
    (sym waits)
    (heard_fault g.N.Node.answers g.N.Node.is_stopped g.W.LedgerOut.text (known c.in-Some.line) c.next.new.self.waiting at new c.in_err-hear_line.field-0.0
    c.in_err-hear_line.ensures.hears)))

pub lines-preserved : goal.lines-preserved
lines-preserved g c =
    let at = hall c.lines.self-inside.crew (g.L.Link.sent c.lines.link) in
    let mid = hall c.hear_line.new.self (g.L.Link.sent c.hear_line.new.link) in
    let took = c.in-Some.ensures.some in
    let waits = ap (λ (s : Stream). s.waiting) took in
    record {
      hears = λ result left new h.
          c.lines.invariant.hears result left new
          (subst (λ (lines : List BoundedLine). HearsAll g.N.Node.answers g.N.Node.is_stopped g.W.LedgerOut.text lines result left at new) (sym waits)
          (heard_more g.N.Node.answers g.N.Node.is_stopped g.W.LedgerOut.text (known c.in-Some.line) c.next.new.self.waiting left result at mid new
          c.in_ok-hear_line.ensures.hears h));
      rest = sym (ap (λ (s : Stream). s.rest) took) ∙ c.lines.invariant.rest;
      step = λ h. c.in_ok-hear_line.ensures.step (λ e. cc) (c.lines.invariant.step h);
      waiting = c.in_ok-hear_line.ensures.waiting ∙ c.lines.invariant.waiting;
    }

pub returns-clause-hears : goal.returns-clause-hears
returns-clause-hears g c =
    let at = hall c.lines.self-inside.crew (g.L.Link.sent c.lines.link) in
    let none = c.in_default.ensures.none in
    let left = ap (λ (s : Stream). s.waiting) none.1 ∙ none.0 in
    c.lines.invariant.hears (Ok tt) c.next.new.self.waiting at
    (subst (λ (lines : List BoundedLine). HearsAll g.N.Node.answers g.N.Node.is_stopped g.W.LedgerOut.text lines (Ok tt) c.next.new.self.waiting at at) (sym none.0)
    (subst (λ (lines : List BoundedLine). HearsAll g.N.Node.answers g.N.Node.is_stopped g.W.LedgerOut.text [] (Ok tt) lines at at) (sym left)
    (heard_none g.N.Node.answers g.N.Node.is_stopped g.W.LedgerOut.text at)))
