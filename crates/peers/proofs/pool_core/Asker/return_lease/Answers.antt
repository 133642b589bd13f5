use Rattle.std.proofs.Common.{◌∙◌, ◌≢◌, List, [], ◌∷◌, Option, None, Some, Vec, Global, ℕ, ap, subst, sym}
use Rattle.std.specs.Prelude.{IfErr, OnOk, option_map}
use Rattle.std.proofs.lemmas.Result.{on_ok_weaker}
use Rattle.wire.specs.declared.handing.TurnFault.TheVariants.{LinkFault}
use Rattle.wire.specs.Terms.{BrokenOff, Faulted, Handed, scene, Came}
use Rattle.peers.specs.Guard.{AskerState, returned_by}
use Rattle.peers.proofs.Answering.{weaker, broken_one, handed_one}
use Rattle.peers.proofs.pool_core.Asker.return_lease.Goals as goal

pub returns-in-Some-clause-ok : goal.returns-in-Some-clause-ok
returns-in-Some-clause-ok g c =
    let has = ap Some c.deref.ensures.value ∙ ap (option_map (λ (f : Vec ℕ Global). f.items)) (sym c.in-Some.is) ∙ ap (λ (a : AskerState). a.returning) c.self.view_is in
    let old = scene c.args.node.now (g.W.LedgerOut.text c.args.ledger.now) None in
    let new = scene c.hand_alone.new.node (g.W.LedgerOut.text c.hand_alone.new.ledger) None in
    subst (λ (r : Option (List ℕ)). OnOk c.hand_alone.result (Handed g.N.Node.answers old (returned_by r) [] new)) has
    (on_ok_weaker c.hand_alone.result
    (λ done. handed_one g.N.Node.answers c.args.node.now c.hand_alone.new.node _ _ (Came c.deref.result.now) done.0 done.1 done.2) c.hand_alone.ensures.ok)

pub returns-in-Some-clause-err : goal.returns-in-Some-clause-err
returns-in-Some-clause-err g c =
    let has = ap Some c.deref.ensures.value ∙ ap (option_map (λ (f : Vec ℕ Global). f.items)) (sym c.in-Some.is) ∙ ap (λ (a : AskerState). a.returning) c.self.view_is in
    let old = scene c.args.node.now (g.W.LedgerOut.text c.args.ledger.now) None in
    let new = scene c.hand_alone.new.node (g.W.LedgerOut.text c.hand_alone.new.ledger) None in
    subst (λ (r : Option (List ℕ)). IfErr c.hand_alone.result (λ fault. (fault ≢ LinkFault) × BrokenOff g.N.Node.answers g.N.Node.is_stopped old (returned_by r) fault [] new))
    has
    (weaker
    (λ fault. (fault ≢ LinkFault) × Faulted g.N.Node.answers g.N.Node.is_stopped old (Came c.deref.result.now) fault new)
    (λ fault. (fault ≢ LinkFault) × BrokenOff g.N.Node.answers g.N.Node.is_stopped old (Came c.deref.result.now ∷ []) fault [] new)
    c.hand_alone.result (λ fault told. (told.0, broken_one g.N.Node.answers g.N.Node.is_stopped old new (Came c.deref.result.now) fault told.1))
    c.hand_alone.ensures.err)
