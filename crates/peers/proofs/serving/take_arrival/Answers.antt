use Rattle.std.proofs.Common.{◌∙◌, refl, ap, [], ◌∷◌, map, append-nil}
use Rattle.std.specs.Prelude.{Some}
use Rattle.std.proofs.lemmas.Result.{err_from_is_err_and}
use Rattle.wire.specs.Terms.{Reply, Ticked}
use Rattle.peers.specs.Served.{Opened, Came, Gone, Passed, Room, served}
use Rattle.peers.specs.Peers.{peer_at}
use Rattle.peers.proofs.GuardLaws.{heard_whole, let_go_same}
use Rattle.peers.proofs.serving.take_arrival.Goals as goal

pub returns-in_ok-open-in-Opened-clause-ok : goal.returns-in_ok-open-in-Opened-clause-ok
returns-in_ok-open-in-Opened-clause-ok g c =
    let came = rw c.in-Opened.is at c.in-Ok.ensures.came in
    let peers = c.in_ok-open-in-Opened.ensures.ok in (
      record { came = Opened; replies = []; handed = [] },
      came.1,
      (refl, refl, ap (served c.args.node.now (g.W.LedgerOut.text c.args.ledger.now)) peers),
      refl,
      c.next_arrival.ensures.dismissed,
    )

pub returns-in_ok-take-in-Came-clause-ok : goal.returns-in_ok-take-in-Came-clause-ok
returns-in_ok-take-in-Came-clause-ok g c =
    let came = rw c.in-Came.is at c.in-Ok.ensures.came in
    let old = served c.args.node.now (g.W.LedgerOut.text c.args.ledger.now) c.args.peers.now in
    let new = served c.take.new.node (g.W.LedgerOut.text c.take.new.ledger) c.take.new.self in
    let told =
    heard_whole g.N.Node.answers g.N.Node.is_stopped old (peer_at c.args.peers.now c.in-Came.place) _ _ new (peer_at c.take.new.self c.in-Came.place)
    c.in_ok-take-in-Came.ensures.heard in (
      record { came = Came c.in-Came.place _; replies = told.0; handed = told.1 },
      c.let_go.ensures.arrived ∙ came.1,
      (told.2, c.take.ensures.others),
      refl,
      c.let_go.ensures.dismissed ∙ let_go_same c.in-Came.place _ _ _ _ _ _ c.dismissal-was.ensures c.dismissal.ensures c.next_arrival.ensures.dismissed,
    )

pub returns-in_ok-leave-in-Gone-clause-ok : goal.returns-in_ok-leave-in-Gone-clause-ok
returns-in_ok-leave-in-Gone-clause-ok g c =
    let came = rw c.in-Gone.is at c.in-Ok.ensures.came in
    let back = c.in_ok-leave-in-Gone.ensures.ok in (
      record { came = Gone c.in-Gone.place; replies = []; handed = back.replies },
      came.1,
      (
        refl,
        record {
          returned = back.order ∙ append-nil (map (λ (reply : Reply). reply.to) back.replies);
          whole = back.whole;
          node = c.leave.ensures.only;
          peers = c.leave.ensures.left;
        },
      ),
      refl,
      c.next_arrival.ensures.dismissed,
    )

pub returns-in_ok-tick-in-Passed-clause-ok : goal.returns-in_ok-tick-in-Passed-clause-ok
returns-in_ok-tick-in-Passed-clause-ok g c =
    let came = rw c.in-Passed.is at c.in-Ok.ensures.came in
    let told = c.in_ok-tick-in-Passed.ensures.ok in
    let ticked : Reply = record { to = Ticked c.in-Passed.moment; out = told.0 } in (
      record { came = Passed c.in-Passed.moment; replies = []; handed = ticked ∷ [] },
      came.1,
      (refl, record { out = told.0; told = refl; answer = told.1; node = told.2; kept = told.3; peers = refl }),
      refl,
      c.next_arrival.ensures.dismissed,
    )

pub returns-in-Room-clause-ok : goal.returns-in-Room-clause-ok
returns-in-Room-clause-ok g c =
    let came = rw c.in-Room.is at c.in-Ok.ensures.came in
    (record { came = Room c.in-Room.place; replies = []; handed = [] }, came.1, (refl, refl, refl), refl, c.next_arrival.ensures.dismissed)

pub returns-in_err-open-in-Opened-clause-err : goal.returns-in_err-open-in-Opened-clause-err
returns-in_err-open-in-Opened-clause-err g c =
    let came = rw c.in-Opened.is at c.in-Ok.ensures.came in
    let fault = err_from_is_err_and c.from_residual.result c.from_residual.ensures.1 in
    rw (fault.1, fault.2)
    (Some Opened, came.1, (refl, ap (served c.args.node.now (g.W.LedgerOut.text c.args.ledger.now)) c.in_err-open-in-Opened.ensures.err))

pub returns-in_err-take-in-Came-clause-err : goal.returns-in_err-take-in-Came-clause-err
returns-in_err-take-in-Came-clause-err g c =
    let came = rw c.in-Came.is at c.in-Ok.ensures.came in
    let fault = err_from_is_err_and c.from_residual-in_err-take-in-Came.result c.from_residual-in_err-take-in-Came.ensures.1 in
    rw (fault.1, fault.2) (Some (Came c.in-Came.place _), came.1, (c.in_err-take-in-Came.ensures.heard, c.take.ensures.others))

pub returns-in_err-leave-in-Gone-clause-err : goal.returns-in_err-leave-in-Gone-clause-err
returns-in_err-leave-in-Gone-clause-err g c =
    let came = rw c.in-Gone.is at c.in-Ok.ensures.came in
    let fault = err_from_is_err_and c.from_residual-in_err-leave-in-Gone.result c.from_residual-in_err-leave-in-Gone.ensures.1 in
    let told = c.in_err-leave-in-Gone.ensures.err in
    rw (fault.1, fault.2) (Some (Gone c.in-Gone.place), came.1, (told.0, c.leave.ensures.left, told.1))

pub returns-in_err-tick-in-Passed-clause-err : goal.returns-in_err-tick-in-Passed-clause-err
returns-in_err-tick-in-Passed-clause-err g c =
    let came = rw c.in-Passed.is at c.in-Ok.ensures.came in
    let fault = err_from_is_err_and c.from_residual-in_err-tick-in-Passed.result c.from_residual-in_err-tick-in-Passed.ensures.1 in
    let told = c.in_err-tick-in-Passed.ensures.err in
    rw (fault.1, fault.2) (Some (Passed c.in-Passed.moment), came.1, (told.0, refl, told.1))
