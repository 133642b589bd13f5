-- What is served after something else was served: nothing, one arrival, or more of them.
use Rattle.std.proofs.Common.{◌≡◌, refl, sym, ap, ℕ, List, [], ◌∷◌, append-nil, ◌∙◌, subst, inl, inr, ◌++◌, append_assoc}
use Rattle.std.specs.Prelude.{Option, Some, None, ◌⊎◌}
use Rattle.std.proofs.lemmas.List.{map-append}
use Rattle.std.proofs.lemmas.List.Concat.{flat_map-append}
use Rattle.wire.specs.Terms.{Answering, grown, Reply}
use Rattle.peers.specs.Served.{Incoming, Taking, noted, Served, Exchange, Flushes, Round, asker, TakesAsBefore, Rounds, all_came, served}
use Rattle.peers.specs.Sent.{SendsTo, Serves, ServesOne, IsSent, IsGone, answer_frames, answers_to, replies_to}
use Rattle.peers.proofs.Sending.{sent_none, sent_elsewhere, sent_one, Becomes, Adds, Leaves, becomes, grown_none, grown_twice}
use Rattle.peers.specs.Peers.{PeerState, peer_at, due_at}
use Rattle.peers.proofs.PeerLines.{flushed_gone, rounds_gone}

-- One arrival, or none.

-- a round without what was sent in it
pub round_of : {N : Type 0} (answers : Answering N) (takes : Taking) (old : Served N) (exchange : Exchange) (new : Served N) (sent sent' : ℕ → Option (List ℕ))
    → ServesOne answers takes old exchange new sent sent' → Round answers takes old exchange new
round_of answers takes old exchange new sent sent' one = (one.peers, one.arrives, flushed (asker exchange.came) one.sends)
  where
    flushed : (asked : Option ℕ) → SendsTo takes asked one.peers new.peers sent sent' → Flushes takes asked one.peers new.peers
    flushed None sends = sends.0
    flushed (Some place) sends = (sends.0.0, sends.0.1, sends.0.2)

-- nothing is served, and nothing sent
pub serves_none : {N : Type 0} (answers : Answering N) (takes : Taking) (old : Served N) (sent sent' : ℕ → Option (List ℕ)) → ((place : ℕ) → sent' place ≡ sent place)
    → Serves answers takes old [] old sent sent'
serves_none answers takes old sent sent' same = record {
  rounds = refl;
  sent = λ place. sent_elsewhere place [] old.peers old.peers old.peers (sent place) (sent place) (sent' place) (sent_none place old.peers (sent place)) (same place) refl refl;
}

-- one exchange is served
pub serves_one : {N : Type 0} (answers : Answering N) (takes : Taking) (old : Served N) (next : Exchange) (new : Served N) (sent sent' : ℕ → Option (List ℕ))
    → ServesOne answers takes old next new sent sent' → Serves answers takes old (next ∷ []) new sent sent'
serves_one answers takes old next new sent sent' one = record {
  rounds = (new, round_of answers takes old next new sent sent' one, refl);
  sent = λ place. sent_one answers takes place next old new sent sent' one;
}

pub noted_none : (arrived : Option (List Incoming)) → arrived ≡ noted arrived []
noted_none (Some arrived) = ap Some (sym (append-nil arrived))
noted_none None = refl

-- What is served after something else was served.

-- what came after that is noted
pub noted_on : (arrived : Option (List Incoming)) (before after : List Exchange)
    → noted (noted arrived (all_came before)) (all_came after) ≡ noted arrived (all_came (before ++ after))
noted_on (Some arrived) before after =
    ap Some
    (append_assoc arrived (all_came before) (all_came after)
    ∙ ap (λ (came : List Incoming). arrived ++ came) (sym (map-append (λ (exchange : Exchange). exchange.came) before after)))
noted_on None before after = refl

nothing_before : (xs ys : List ℕ) → [] ≡ xs ++ ys → xs ≡ []
nothing_before [] ys e = refl
nothing_before (x ∷ xs) ys e = absurd (let none : [] ≡ x ∷ (xs ++ ys) = e in cc)

module _ {N : Type 0} (answers : Answering N) where
  -- what is taken later would have been taken before
  rounds_as_before : (takes takes' : Taking) (old : Served N) (exchanges : List Exchange) (new : Served N) → TakesAsBefore takes takes'
      → Rounds answers takes' old exchanges new → Rounds answers takes old exchanges new
  rounds_as_before takes takes' old [] new same e = e
  rounds_as_before takes takes' old (exchange ∷ exchanges) new same (at, (peers, arrives, flushes), others) =
      (at, (peers, arrives, flushed (asker exchange.came) flushes), rounds_as_before takes takes' at exchanges new same others)
    where
      flushed : (asked : Option ℕ) → Flushes takes' asked peers at.peers → Flushes takes asked peers at.peers
      flushed None e = e
      flushed (Some place) (count, taken, e) = (count, same place (due_at (peer_at peers place)) count taken, e)

  rounds_on : (takes : Taking) (old at new : Served N) (before after : List Exchange) → Rounds answers takes old before at
      → Rounds answers takes at after new → Rounds answers takes old (before ++ after) new
  rounds_on takes old at new [] after e rounds = subst (λ s. Rounds answers takes s after new) e rounds
  rounds_on takes old at new (exchange ∷ before) after (mid, round, others) rounds =
      (mid, round, rounds_on takes mid at new before after others rounds)

  -- to a peer that is gone nothing is answered
  gone_silent : (takes : Taking) (old : Served N) (exchanges : List Exchange) (new : Served N) (place : ℕ) → Rounds answers takes old exchanges new
      → IsGone old.peers place → answer_frames (replies_to place exchanges) ≡ []
  gone_silent takes old [] new place rounds gone = refl
  gone_silent takes old (exchange ∷ exchanges) new place (at, (peers, arrives, flushes), others) gone =
      let frames = answer_frames (answers_to place exchange.came exchange.replies) in
      let now = silent (becomes answers old exchange.came exchange.replies exchange.handed (served at.node at.text peers) place arrives) in
      flat_map-append (λ (reply : Reply). reply.out.frames.items) (answers_to place exchange.came exchange.replies) (replies_to place exchanges)
      ∙ (ap (λ (fs : List ℕ). fs ++ answer_frames (replies_to place exchanges)) now.0
      ∙ gone_silent takes at exchanges new place others (flushed_gone takes (asker exchange.came) peers at.peers place flushes now.1))
    where
      silent : Becomes old.peers peers place (answer_frames (answers_to place exchange.came exchange.replies))
          → (answer_frames (answers_to place exchange.came exchange.replies) ≡ []) × IsGone peers place
      silent (Adds adds still) =
          let left = still gone in
          (ap (λ (due : List ℕ). due ++ answer_frames (answers_to place exchange.came exchange.replies)) (sym (ap due_at gone.1)) ∙ sym adds ∙ ap due_at left.1, left)
      silent (Leaves none left) = (none, left)

  -- what is sent after that
  sent_on : (takes : Taking) (place : ℕ) (before after : List Exchange) (old : List (Option PeerState)) (at new : Served N)
      (sent sent' sent'' : Option (List ℕ)) → IsSent place before old at.peers sent sent' → Rounds answers takes at after new
      → IsSent place after at.peers new.peers sent' sent'' → IsSent place (before ++ after) old new.peers sent sent''
  sent_on takes place before after old at new sent sent' sent'' first rounds then = by_left first.waits
    where
      frames : answer_frames (replies_to place (before ++ after)) ≡ answer_frames (replies_to place before) ++ answer_frames (replies_to place after)
      frames = ap answer_frames (flat_map-append (λ (e : Exchange). answers_to place e.came e.replies) before after)
          ∙ flat_map-append (λ (reply : Reply). reply.out.frames.items) (replies_to place before) (replies_to place after)

      all : due_at (peer_at old place) ++ answer_frames (replies_to place (before ++ after))
          ≡ first.done ++ (first.left ++ answer_frames (replies_to place after))
      all = ap (λ (l : List ℕ). due_at (peer_at old place) ++ l) frames
          ∙ (sym (append_assoc (due_at (peer_at old place)) (answer_frames (replies_to place before)) (answer_frames (replies_to place after)))
          ∙ (ap (λ (l : List ℕ). l ++ answer_frames (replies_to place after)) first.all
          ∙ append_assoc first.done first.left (answer_frames (replies_to place after))))

      taken : sent'' ≡ grown sent (first.done ++ then.done)
      taken = then.sent ∙ (ap (λ (s : Option (List ℕ)). grown s then.done) first.sent ∙ grown_twice sent first.done then.done)

      by_left : (first.left ≡ due_at (peer_at at.peers place)) ⊎ IsGone at.peers place → IsSent place (before ++ after) old new.peers sent sent''
      by_left (inl is) = record {
        done = first.done ++ then.done;
        left = then.left;
        all = all ∙ (ap (λ (l : List ℕ). first.done ++ l) (ap (λ (l : List ℕ). l ++ answer_frames (replies_to place after)) is ∙ then.all)
            ∙ sym (append_assoc first.done then.done then.left));
        sent = taken;
        waits = then.waits;
      }
      by_left (inr gone) =
          let none = gone_silent takes at after new place rounds gone in
          let nothing = nothing_before then.done then.left (sym none ∙ (sym (ap (λ (l : List ℕ). l ++ answer_frames (replies_to place after)) (ap due_at gone.1)) ∙ then.all)) in
          record {
            done = first.done;
            left = first.left;
            all = all ∙ (ap (λ (l : List ℕ). first.done ++ (first.left ++ l)) none ∙ ap (λ (l : List ℕ). first.done ++ l) (append-nil first.left));
            sent = then.sent ∙ (ap (λ (l : List ℕ). grown sent' l) nothing ∙ (grown_none sent' ∙ first.sent));
            waits = inr (rounds_gone answers takes at after new place rounds gone);
          }

  -- one list of exchanges after another
  module _ (takes takes' : Taking) (same : TakesAsBefore takes takes') (old at : Served N) (before : List Exchange) (sent sent' : ℕ → Option (List ℕ))
      (first : Serves answers takes old before at sent sent') where
    pub serves_on : (after : List Exchange) (new : Served N) (sent'' : ℕ → Option (List ℕ)) → Serves answers takes' at after new sent' sent''
        → Serves answers takes old (before ++ after) new sent sent''
    serves_on after new sent'' then =
        let rounds = rounds_as_before takes takes' at after new same then.rounds in
        record {
          rounds = rounds_on takes old at new before after first.rounds rounds;
          sent = λ place. sent_on takes place before after old.peers at new (sent place) (sent' place) (sent'' place) (first.sent place) rounds (then.sent place);
        }
