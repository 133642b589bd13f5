-- What is sent to the peer at a place, as one arrival is served after another.
use Rattle.std.proofs.Common.{◌≡◌, ◌∙◌, refl, sym, subst, ap, inl, inr, ℕ, ◌<◌, zero, suc, List, [], ◌∷◌, ◌++◌, length, take, drop, append_assoc, append-nil, length-append, arith}
use Rattle.std.specs.Prelude.{◌⊎◌, Option, Some, None, if◌then◌else◌, set, nat_eq}
use Rattle.std.proofs.Math.ListN.{get_or-append}
use Rattle.std.proofs.Math.Seq.{drop-nil, take-nil}
use Rattle.std.proofs.lemmas.Bool.{cases_eq, cases_lt, ne_eqb, eq-eqb}
use Rattle.std.proofs.lemmas.List.{take-append-drop, length-set, get_or-set_same, get_or-set_other, set_past, get_or_past}
use Rattle.wire.specs.Terms.{grown, Answering, Reply}
use Rattle.peers.specs.Served.{Incoming, Taking, Opened, Came, Gone, Passed, Room, Served, Exchange, AnswersWhereThere, TakesArrival, asker, served}
use Rattle.peers.specs.Peers.{PeerState, at_first, peer_at, due_at, drained_at}
use Rattle.peers.specs.Sent.{Sends, SendsTo, ServesOne, IsSent, IsGone, answers_to, replies_to, answer_frames}

-- bytes after bytes
pub grown_twice : (sent : Option (List ℕ)) (xs ys : List ℕ) → grown (grown sent xs) ys ≡ grown sent (xs ++ ys)
grown_twice (Some sent) xs ys = ap Some (append_assoc sent xs ys)
grown_twice None xs ys = refl

pub grown_none : (sent : Option (List ℕ)) → grown sent [] ≡ sent
grown_none (Some sent) = ap Some (append-nil sent)
grown_none None = refl

-- the frames to a place of one exchange
frames_one : (place : ℕ) (next : Exchange) → answer_frames (replies_to place (next ∷ [])) ≡ answer_frames (answers_to place next.came next.replies)
frames_one place next = ap answer_frames (append-nil (answers_to place next.came next.replies))

-- what an arrival does to what waits for the peer at a place: these frames are added to it, or the peer leaves
pub data Becomes (old new : List (Option PeerState)) (place : ℕ) (frames : List ℕ) : Type 0 where
  Adds : due_at (peer_at new place) ≡ due_at (peer_at old place) ++ frames → (IsGone old place → IsGone new place) → Becomes old new place frames
  Leaves : frames ≡ [] → IsGone new place → Becomes old new place frames

-- where nothing is answered, and the peer there is as it was
stays : (old new : List (Option PeerState)) (place : ℕ) → length new ≡ length old → peer_at new place ≡ peer_at old place → Becomes old new place []
stays old new place len e =
    Adds (ap due_at e ∙ sym (append-nil (due_at (peer_at old place))))
    (λ gone. (subst (λ n. place < n) (sym len) gone.0, e ∙ gone.1))

-- a peer that comes has nothing that waits
due_opened : (peers : List (Option PeerState)) (place : ℕ) → due_at (peer_at (peers ++ (Some at_first ∷ [])) place) ≡ due_at (peer_at peers place)
due_opened [] zero = refl
due_opened [] (suc place) = refl
due_opened (peer ∷ peers) zero = refl
due_opened (peer ∷ peers) (suc place) = due_opened peers place

longer : (peers : List (Option PeerState)) (place : ℕ) → place < length peers → place < length (peers ++ (Some at_first ∷ []))
longer peers place below = omega (arith, length-append peers (Some at_first ∷ []))

opened : (peers : List (Option PeerState)) (place : ℕ) → Becomes peers (peers ++ (Some at_first ∷ [])) place []
opened peers place =
    Adds (due_opened peers place ∙ sym (append-nil (due_at (peer_at peers place))))
    (λ gone. (longer peers place gone.0, get_or-append peers (Some at_first ∷ []) None place gone.0 ∙ gone.1))

-- a peer leaves
left_place : (peers : List (Option PeerState)) (place : ℕ) → Becomes peers (set peers place None) place []
left_place peers place = elim (cases_lt place (length peers)) as (λ _. Becomes peers (set peers place None) place []) [
  | inl below ↦ Leaves refl (subst (λ n. place < n) (sym (length-set peers place None)) below, get_or-set_same peers place None None below)
  | inr past ↦ stays peers (set peers place None) place (length-set peers place None) (ap (λ (ps : List (Option PeerState)). peer_at ps place) (set_past peers place None past))
]

left_any : (peers : List (Option PeerState)) (from place : ℕ) → Becomes peers (set peers from None) place []
left_any peers from place = elim (cases_eq from place) as (λ _. Becomes peers (set peers from None) place []) [
  | inl e ↦ subst (λ p. Becomes peers (set peers p None) place []) (sym e) (left_place peers place)
  | inr other ↦ stays peers (set peers from None) place (length-set peers from None) (get_or-set_other peers from place None None (λ e. other (sym e)))
]

-- a piece came from the peer at a place
module _ {N : Type 0} (answers : Answering N) (old new : Served N) (place : ℕ) (piece : List ℕ) (replies handed : List Reply)
    (len : length new.peers ≡ length old.peers) where
  heard : (before after : Option PeerState) → peer_at old.peers place ≡ before → peer_at new.peers place ≡ after
      → AnswersWhereThere answers old before piece replies handed new after → Becomes old.peers new.peers place (answer_frames replies)
  heard None after was is (none, unhanded, node, text, gone) =
      subst (λ (rs : List Reply). Becomes old.peers new.peers place (answer_frames rs)) (sym none)
      (stays old.peers new.peers place len (is ∙ gone ∙ sym was))
  heard (Some peer) after was is (next, e, told) =
      let due : due_at (peer_at new.peers place) ≡ next.due = ap due_at (is ∙ e) in
      let before : peer.due ≡ due_at (peer_at old.peers place) = ap due_at (sym was) in
      Adds (due ∙ told.due ∙ ap (λ (d : List ℕ). d ++ answer_frames replies) before)
      (λ gone. absurd (let e : Some peer ≡ None = sym was ∙ gone.1 in cc))

-- what is added to what waits for the peer at a place by what comes
pub becomes : {N : Type 0} (answers : Answering N) (old : Served N) (came : Incoming) (replies handed : List Reply) (new : Served N) (place : ℕ)
    → TakesArrival answers old came replies handed new → Becomes old.peers new.peers place (answer_frames (answers_to place came replies))
becomes {N} answers old Opened replies handed new place (none, unhanded, e) =
    subst (λ (ps : List (Option PeerState)). Becomes old.peers ps place []) (sym (ap (λ (s : Served N). s.peers) e)) (opened old.peers place)
becomes answers old (Came from piece) replies handed new place (told, kept) =
    elim (cases_eq from place) as (λ _. Becomes old.peers new.peers place (answer_frames (if nat_eq from place then replies else []))) [
      | inl e ↦
          rw (eq-eqb from place e)
          (heard answers old new place piece replies handed (ap length kept ∙ length-set old.peers from (peer_at new.peers from))
          (peer_at old.peers place) (peer_at new.peers place) refl refl
          (subst (λ p. AnswersWhereThere answers old (peer_at old.peers p) piece replies handed new (peer_at new.peers p)) e told))
      | inr other ↦
          rw (ne_eqb from place other)
          (stays old.peers new.peers place (ap length kept ∙ length-set old.peers from (peer_at new.peers from))
          (ap (λ (ps : List (Option PeerState)). peer_at ps place) kept ∙ get_or-set_other old.peers from place (peer_at new.peers from) None (λ e. other (sym e))))
    ]
becomes answers old (Gone from) replies handed new place (none, leaves) =
    subst (λ (ps : List (Option PeerState)). Becomes old.peers ps place []) (sym leaves.peers) (left_any old.peers from place)
becomes answers old (Passed moment) replies handed new place (none, ticks) =
    stays old.peers new.peers place (ap length ticks.peers) (ap (λ (ps : List (Option PeerState)). peer_at ps place) ticks.peers)
becomes {N} answers old (Room from) replies handed new place (none, unhanded, e) =
    stays old.peers new.peers place (ap (λ (s : Served N). length s.peers) e) (ap (λ (s : Served N). peer_at s.peers place) e)

-- the answers to what came go to what waits for the peer
taken_one : (place : ℕ) (next : Exchange) (old new : List (Option PeerState)) (sent : Option (List ℕ))
    → Becomes old new place (answer_frames (answers_to place next.came next.replies)) → IsSent place (next ∷ []) old new sent sent
taken_one place next old new sent becomes = record {
  done = [];
  left = due_at (peer_at old place) ++ answer_frames (answers_to place next.came next.replies);
  all = ap (λ (f : List ℕ). due_at (peer_at old place) ++ f) (frames_one place next);
  sent = sym (grown_none sent);
  waits = left_after becomes;
}
  where
    left_after : Becomes old new place (answer_frames (answers_to place next.came next.replies))
        → (due_at (peer_at old place) ++ answer_frames (answers_to place next.came next.replies) ≡ due_at (peer_at new place)) ⊎ IsGone new place
    left_after (Adds adds still) = inl (sym adds)
    left_after (Leaves none gone) = inr gone

-- what is written to a peer waits no more
due_drained : (peer : Option PeerState) (count : ℕ) → due_at (drained_at count peer) ≡ drop count (due_at peer)
due_drained (Some peer) count = refl
due_drained None count = sym (drop-nil count)

due_sent : (peers : List (Option PeerState)) (place count : ℕ)
    → due_at (peer_at (set peers place (drained_at count (peer_at peers place))) place) ≡ drop count (due_at (peer_at peers place))
due_sent peers place count =
    let next = drained_at count (peer_at peers place) in
    elim (cases_lt place (length peers)) as (λ _. due_at (peer_at (set peers place next) place) ≡ drop count (due_at (peer_at peers place))) [
      | inl below ↦ ap due_at (get_or-set_same peers place next None below) ∙ due_drained (peer_at peers place) count
      | inr past ↦
          ap (λ (ps : List (Option PeerState)). due_at (peer_at ps place)) (set_past peers place next past) ∙ ap due_at (get_or_past peers place None past)
          ∙ sym (drop-nil count) ∙ ap (λ (p : Option PeerState). drop count (due_at p)) (sym (get_or_past peers place None past))
    ]

pub gone_sent : (peers : List (Option PeerState)) (place count : ℕ) → IsGone peers place → IsGone (set peers place (drained_at count (peer_at peers place))) place
gone_sent peers place count gone =
    let next = drained_at count (peer_at peers place) in (
      subst (λ n. place < n) (sym (length-set peers place next)) gone.0,
      get_or-set_same peers place next None gone.0 ∙ ap (drained_at count) gone.1,
    )

-- the first part of what is left is sent
sent_there : (takes : Taking) (place : ℕ) (exchanges : List Exchange) (old at new : List (Option PeerState)) (sent sent' sent'' : Option (List ℕ))
    → IsSent place exchanges old at sent sent' → Sends takes place at new sent' sent'' → IsSent place exchanges old new sent sent''
sent_there takes place exchanges old at new sent sent' sent'' before (count, taken, e, took) = by_left before.waits
  where
    by_left : (before.left ≡ due_at (peer_at at place)) ⊎ IsGone at place → IsSent place exchanges old new sent sent''
    by_left (inl is) = record {
      done = before.done ++ take count (due_at (peer_at at place));
      left = drop count (due_at (peer_at at place));
      all = before.all ∙ ap (λ (l : List ℕ). before.done ++ l) (is ∙ sym (take-append-drop count (due_at (peer_at at place))))
          ∙ sym (append_assoc before.done (take count (due_at (peer_at at place))) (drop count (due_at (peer_at at place))));
      sent = took ∙ ap (λ (s : Option (List ℕ)). grown s (take count (due_at (peer_at at place)))) before.sent
          ∙ grown_twice sent before.done (take count (due_at (peer_at at place)));
      waits = inl (sym (ap (λ (ps : List (Option PeerState)). due_at (peer_at ps place)) e ∙ due_sent at place count));
    }
    by_left (inr gone) = record {
      done = before.done;
      left = before.left;
      all = before.all;
      sent = took ∙ ap (λ (p : Option PeerState). grown sent' (take count (due_at p))) gone.1
          ∙ ap (grown sent') (take-nil count) ∙ grown_none sent' ∙ before.sent;
      waits = inr (subst (λ (ps : List (Option PeerState)). IsGone ps place) (sym e) (gone_sent at place count gone));
    }

-- others are sent something, or nobody
pub sent_elsewhere : (place : ℕ) (exchanges : List Exchange) (old at new : List (Option PeerState)) (sent sent' sent'' : Option (List ℕ))
    → IsSent place exchanges old at sent sent' → sent'' ≡ sent' → length new ≡ length at → peer_at new place ≡ peer_at at place
    → IsSent place exchanges old new sent sent''
sent_elsewhere place exchanges old at new sent sent' sent'' before same len is = record {
  done = before.done;
  left = before.left;
  all = before.all;
  sent = same ∙ before.sent;
  waits = still before.waits;
}
  where
    still : (before.left ≡ due_at (peer_at at place)) ⊎ IsGone at place → (before.left ≡ due_at (peer_at new place)) ⊎ IsGone new place
    still (inl e) = inl (e ∙ sym (ap due_at is))
    still (inr gone) = inr (subst (λ n. place < n) (sym len) gone.0, is ∙ gone.1)

sent_to : (takes : Taking) (asked : Option ℕ) (place : ℕ) (exchanges : List Exchange) (old at new : List (Option PeerState)) (sent sent' sent'' : ℕ → Option (List ℕ))
    → IsSent place exchanges old at (sent place) (sent' place) → SendsTo takes asked at new sent' sent'' → IsSent place exchanges old new (sent place) (sent'' place)
sent_to takes None place exchanges old at new sent sent' sent'' before (e, same) =
    sent_elsewhere place exchanges old at new (sent place) (sent' place) (sent'' place) before (same place) (ap length e)
    (ap (λ (ps : List (Option PeerState)). peer_at ps place) e)
sent_to takes (Some to) place exchanges old at new sent sent' sent'' before (sends, others) =
    elim (cases_eq to place) as (λ _. IsSent place exchanges old new (sent place) (sent'' place)) [
      | inl e ↦
          sent_there takes place exchanges old at new (sent place) (sent' place) (sent'' place) before
          (subst (λ p. Sends takes p at new (sent' p) (sent'' p)) e sends)
      | inr other ↦
          let next = drained_at sends.0 (peer_at at to) in
          sent_elsewhere place exchanges old at new (sent place) (sent' place) (sent'' place) before (others place (λ e. other (sym e)))
          (ap length sends.2 ∙ length-set at to next)
          (ap (λ (ps : List (Option PeerState)). peer_at ps place) sends.2 ∙ get_or-set_other at to place next None (λ e. other (sym e)))
    ]

-- nothing has come
pub sent_none : (place : ℕ) (peers : List (Option PeerState)) (sent : Option (List ℕ)) → IsSent place [] peers peers sent sent
sent_none place peers sent = record {
  done = [];
  left = due_at (peer_at peers place);
  all = append-nil (due_at (peer_at peers place));
  sent = sym (grown_none sent);
  waits = inl refl;
}

-- one exchange
pub sent_one : {N : Type 0} (answers : Answering N) (takes : Taking) (place : ℕ) (next : Exchange) (old new : Served N) (sent sent' : ℕ → Option (List ℕ))
    → ServesOne answers takes old next new sent sent' → IsSent place (next ∷ []) old.peers new.peers (sent place) (sent' place)
sent_one answers takes place next old new sent sent' one =
    sent_to takes (asker next.came) place (next ∷ []) old.peers one.peers new.peers sent sent sent'
    (taken_one place next old.peers one.peers (sent place) (becomes answers old next.came next.replies next.handed (served new.node new.text one.peers) place one.arrives))
    one.sends
