use Rattle.std.proofs.Common.{◌∙◌, sym, subst, ap, List, ℕ, Option, Ok}
use Rattle.std.proofs.lemmas.Result.{on_ok_weaker}
use Rattle.wire.specs.Terms.{kept_text, scene, seen}
use Rattle.wire.proofs.Answers.{faulted_by}
use Rattle.cmd_nodes.proofs.rounds.handle.Goals as goal

pub returns-clause-ok : goal.returns-clause-ok
returns-clause-ok g c =
    on_ok_weaker c.fulfil.result
    (λ p. (
      c.in_ok-out.out,
      subst (λ n. g.N.Node.answers c.args.node.now (seen c.args.event) (Ok c.in_ok-out.out) n) (sym p.0) c.in_ok-out.ensures.answer,
      ap (λ (t : Option (List ℕ)). scene c.fulfil.new.node t (g.L.Link.sent c.fulfil.new.link)) p.1
          ∙ ap (λ (s : Option (List ℕ)). scene c.fulfil.new.node (kept_text c.in_ok-out.out (g.W.LedgerOut.text c.args.ledger.now)) s) p.2,
    ))
    c.fulfil.ensures.ok

pub returns-clause-err : goal.returns-clause-err
returns-clause-err g c =
    faulted_by g.N.Node.answers g.N.Node.is_stopped
    (scene c.args.node.now (g.W.LedgerOut.text c.args.ledger.now) (g.L.Link.sent c.args.link.now))
    (scene c.fulfil.new.node (g.W.LedgerOut.text c.fulfil.new.ledger) (g.L.Link.sent c.fulfil.new.link))
    (seen c.args.event) c.in_ok-out.out c.on.new.self c.fulfil.result c.in_ok-out.ensures.answer c.fulfil.ensures.faults
    (λ e. let p = c.fulfil.ensures.link e in (p.0, p.1, p.2))
    (λ e. let p = c.fulfil.ensures.ledger e in (p.0, p.1, p.2))
