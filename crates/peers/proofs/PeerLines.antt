-- The lines of one peer, and what its guard makes of them, whatever comes between from others.
use Rattle.std.proofs.Common.{◌≡◌, ◌∙◌, refl, sym, subst, ap, inl, inr, ℕ, ◌<◌, List, [], ◌∷◌, ◌++◌, length, append_assoc, append-nil, Bool}
use Rattle.std.specs.Prelude.{◌⊎◌, Option, Some, None, set, map}
use Rattle.std.proofs.Math.ListN.{get_or-append}
use Rattle.std.proofs.lemmas.Bool.{cases_eq, cases_lt, ne_eqb, eq-eqb}
use Rattle.std.proofs.lemmas.List.{map-append, length-set, get_or-set_same, get_or-set_other, get_or_past}
use Rattle.wire.specs.Terms.{Happening, Stream, fed, lines_from, parts_from, rest_from, event_of, events_of, Answering, Reply}
use Rattle.wire.proofs.LineLaws.{joins}
use Rattle.text.specs.Terms.{BoundedLine}
use Rattle.peers.specs.Served.{Incoming, Taking, Opened, Came, Gone, Passed, Room, Served, Exchange, AnswersPiece, AnswersWhereThere, TakesArrival, Flushes, Rounds, asker, served}
use Rattle.peers.specs.Peers.{PeerState, at_first, peer_at, drained, drained_at}
use Rattle.peers.specs.Sent.{IsGone, answers_to, replies_to, bytes_from, all_from, HasSaid, SaysMore, GuardsAll, GuardsOne}
use Rattle.peers.proofs.Sending.{Becomes, Adds, Leaves, becomes, gone_sent}
use Rattle.peers.specs.declared.guarded.Conduct.{Conduct}
use Rattle.peers.specs.declared.guarded.Guarded.{Guarded}
use Rattle.peers.specs.Guard.{GuardState}

-- The lines of the peer at a place are those of all that came from it, whatever came between from others.

-- one step of what a peer says
record Says (place : ℕ) (said : List ℕ) (came : Incoming) (replies : List Reply) (new : PeerState) : Type 0 where
  lines : events_of (lines_from (Some []) said) ++ map (λ (reply : Reply). reply.to) (answers_to place came replies)
      ≡ events_of (lines_from (Some []) (said ++ bytes_from place came))
  says : HasSaid (said ++ bytes_from place came) new

-- nothing comes from it
silent : (place : ℕ) (said : List ℕ) (came : Incoming) (replies : List Reply) (new : PeerState)
    → bytes_from place came ≡ [] → answers_to place came replies ≡ [] → HasSaid said new → Says place said came replies new
silent place said came replies new no_bytes no_answers is =
    let same : said ≡ said ++ bytes_from place came = sym (ap (λ (b : List ℕ). said ++ b) no_bytes ∙ append-nil said) in
    record {
      lines = ap (λ (rs : List Reply). events_of (lines_from (Some []) said) ++ map (λ (reply : Reply). reply.to) rs) no_answers
          ∙ append-nil (events_of (lines_from (Some []) said)) ∙ ap (λ (b : List ℕ). events_of (lines_from (Some []) b)) same;
      says = is ∙ ap (λ (b : List ℕ). record { waiting = []; rest = rest_from (Some []) b }) same;
    }

-- a piece comes from it
module _ {N : Type 0} (answers : Answering N) (old new : Served N) (said piece : List ℕ) (peer next : PeerState) (replies handed : List Reply)
    (is : HasSaid said peer) (told : AnswersPiece answers old peer piece replies handed new next) where
  spoken_lines : events_of (lines_from (Some []) said) ++ map (λ (reply : Reply). reply.to) replies ≡ events_of (lines_from (Some []) (said ++ piece))
  spoken_lines =
      let asked : map (λ (reply : Reply). reply.to) replies ≡ events_of (lines_from (rest_from (Some []) said) piece) =
      sym told.asked ∙ ap (λ (s : Stream). events_of (fed s piece).waiting) is in
      ap (λ (events : List Happening). events_of (lines_from (Some []) said) ++ events) asked
      ∙ sym (map-append event_of (lines_from (Some []) said) (lines_from (rest_from (Some []) said) piece))
      ∙ ap events_of (sym (joins said piece (Some [])).lines)

  spoken_rest : HasSaid (said ++ piece) next
  spoken_rest =
      told.lines ∙ ap (λ (s : Stream). record { waiting = []; rest = (fed s piece).rest }) is
      ∙ ap (λ (rest : BoundedLine). record { waiting = []; rest = rest }) (sym (joins said piece (Some [])).rest)

-- a peer that is there is at one of the places
pub place_below : (peers : List (Option PeerState)) (place : ℕ) (peer : PeerState) → peer_at peers place ≡ Some peer → place < length peers
place_below peers place peer is = elim (cases_lt place (length peers)) as (λ _. place < length peers) [
  | inl below ↦ below
  | inr past ↦ absurd (let e : None ≡ Some peer = sym (get_or_past peers place None past) ∙ is in cc)
]

-- what becomes of it: it is gone, or is there
abbrev pub StaysOr : (List (Option PeerState)) → ℕ → (PeerState → Type 0) → Type 0
StaysOr peers place P = IsGone peers place ⊎ ((next : PeerState) × (peer_at peers place ≡ Some next) × P next)

says : {N : Type 0} (answers : Answering N) (old : Served N) (came : Incoming) (replies handed : List Reply) (new : Served N) (place : ℕ) (said : List ℕ)
    (peer : PeerState) → peer_at old.peers place ≡ Some peer → HasSaid said peer → TakesArrival answers old came replies handed new
    → StaysOr new.peers place (λ next. Says place said came replies next)
says {N} answers old Opened replies handed new place said peer was is (none, unhanded, e) =
    inr (
      peer,
      ap (λ (s : Served N). peer_at s.peers place) e ∙ get_or-append old.peers (Some at_first ∷ []) None place (place_below old.peers place peer was) ∙ was,
      silent place said Opened replies peer refl refl is,
    )
says answers old (Came from piece) replies handed new place said peer was is (told, kept) =
    elim (cases_eq from place) as (λ _. StaysOr new.peers place (λ next. Says place said (Came from piece) replies next)) [
      | inl e ↦
          let here : AnswersWhereThere answers old (Some peer) piece replies handed new (peer_at new.peers place) =
          subst (λ (before : Option PeerState). AnswersWhereThere answers old before piece replies handed new (peer_at new.peers place)) was
          (subst (λ p. AnswersWhereThere answers old (peer_at old.peers p) piece replies handed new (peer_at new.peers p)) e told) in
          inr (
            here.0,
            here.1,
            record {
              lines = rw (eq-eqb from place e) (spoken_lines answers old new said piece peer here.0 replies handed is here.2);
              says = rw (eq-eqb from place e) (spoken_rest answers old new said piece peer here.0 replies handed is here.2);
            },
          )
      | inr other ↦
          inr (
            peer,
            ap (λ (ps : List (Option PeerState)). peer_at ps place) kept
                ∙ get_or-set_other old.peers from place (peer_at new.peers from) None (λ e. other (sym e)) ∙ was,
            silent place said (Came from piece) replies peer (rw (ne_eqb from place other) refl) (rw (ne_eqb from place other) refl) is,
          )
    ]
says answers old (Gone from) replies handed new place said peer was is (none, leaves) =
    let peers : new.peers ≡ set old.peers from None = leaves.peers in
    elim (cases_eq from place) as (λ _. StaysOr new.peers place (λ next. Says place said (Gone from) replies next)) [
      | inl here ↦
          let below = place_below old.peers place peer was in
          inl (
            subst (λ n. place < n) (sym (ap length peers ∙ length-set old.peers from None)) below,
            ap (λ (ps : List (Option PeerState)). peer_at ps place) (peers ∙ ap (λ p. set old.peers p None) here)
                ∙ get_or-set_same old.peers place None None below,
          )
      | inr other ↦
          inr (
            peer,
            ap (λ (ps : List (Option PeerState)). peer_at ps place) peers ∙ get_or-set_other old.peers from place None None (λ e. other (sym e)) ∙ was,
            silent place said (Gone from) replies peer refl refl is,
          )
    ]
says answers old (Passed moment) replies handed new place said peer was is (none, ticks) =
    inr (
      peer,
      ap (λ (ps : List (Option PeerState)). peer_at ps place) ticks.peers ∙ was,
      silent place said (Passed moment) replies peer refl refl is,
    )
says {N} answers old (Room from) replies handed new place said peer was is (none, unhanded, e) =
    inr (
      peer,
      ap (λ (s : Served N). peer_at s.peers place) e ∙ was,
      silent place said (Room from) replies peer refl refl is,
    )

-- what is sent to peers changes nothing of what they say
pub flushed_there : (takes : Taking) (asked : Option ℕ) (old new : List (Option PeerState)) (place : ℕ) (peer : PeerState) → Flushes takes asked old new
    → peer_at old place ≡ Some peer → (next : PeerState) × (peer_at new place ≡ Some next) × (next.lines ≡ peer.lines) × (next.guard ≡ peer.guard)
flushed_there takes None old new place peer e was = (peer, ap (λ (ps : List (Option PeerState)). peer_at ps place) e ∙ was, refl, refl)
flushed_there takes (Some to) old new place peer (count, taken, e) was =
    elim (cases_eq to place) as (λ _. (next : PeerState) × (peer_at new place ≡ Some next) × (next.lines ≡ peer.lines) × (next.guard ≡ peer.guard)) [
      | inl here ↦ (
        drained count peer,
        ap (λ (ps : List (Option PeerState)). peer_at ps place) (e ∙ ap (λ p. set old p (drained_at count (peer_at old p))) here)
            ∙ get_or-set_same old place (drained_at count (peer_at old place)) None (place_below old place peer was) ∙ ap (drained_at count) was,
        refl,
        refl,
      )
      | inr other ↦ (
        peer,
        ap (λ (ps : List (Option PeerState)). peer_at ps place) e
            ∙ get_or-set_other old to place (drained_at count (peer_at old to)) None (λ e. other (sym e)) ∙ was,
        refl,
        refl,
      )
    ]

pub flushed_gone : (takes : Taking) (asked : Option ℕ) (old new : List (Option PeerState)) (place : ℕ) → Flushes takes asked old new → IsGone old place → IsGone new place
flushed_gone takes None old new place e gone = subst (λ (ps : List (Option PeerState)). IsGone ps place) (sym e) gone
flushed_gone takes (Some to) old new place (count, taken, e) gone =
    let next = drained_at count (peer_at old to) in
    elim (cases_eq to place) as (λ _. IsGone new place) [
      | inl here ↦
          subst (λ (ps : List (Option PeerState)). IsGone ps place) (sym (e ∙ ap (λ p. set old p (drained_at count (peer_at old p))) here))
          (gone_sent old place count gone)
      | inr other ↦ (
        subst (λ n. place < n) (sym (ap length e ∙ length-set old to next)) gone.0,
        ap (λ (ps : List (Option PeerState)). peer_at ps place) e ∙ get_or-set_other old to place next None (λ e. other (sym e)) ∙ gone.1,
      )
    ]

-- a place is used once
becomes_gone : (old new : List (Option PeerState)) (place : ℕ) (frames : List ℕ) → Becomes old new place frames → IsGone old place → IsGone new place
becomes_gone old new place frames (Adds adds still) gone = still gone
becomes_gone old new place frames (Leaves none left) gone = left

pub rounds_gone : {N : Type 0} (answers : Answering N) (takes : Taking) (old : Served N) (exchanges : List Exchange) (new : Served N) (place : ℕ)
    → Rounds answers takes old exchanges new → IsGone old.peers place → IsGone new.peers place
rounds_gone {N} answers takes old [] new place e gone = subst (λ (s : Served N). IsGone s.peers place) (sym e) gone
rounds_gone answers takes old (exchange ∷ exchanges) new place (at, (peers, arrives, flushes), others) gone =
    let taken = becomes_gone old.peers peers place _
    (becomes answers old exchange.came exchange.replies exchange.handed (served at.node at.text peers) place arrives) gone in
    rounds_gone answers takes at exchanges new place others (flushed_gone takes (asker exchange.came) peers at.peers place flushes taken)

goes_on_more : (place : ℕ) (said : List ℕ) (exchange : Exchange) (exchanges : List Exchange) (at new : PeerState)
    → Says place said exchange.came exchange.replies at → SaysMore place (said ++ bytes_from place exchange.came) exchanges new
    → SaysMore place said (exchange ∷ exchanges) new
goes_on_more place said exchange exchanges at new one others =
    let here = answers_to place exchange.came exchange.replies in
    let bytes = bytes_from place exchange.came in
    let joined = append_assoc said bytes (all_from place exchanges) in
    let to = λ (reply : Reply). reply.to in
    record {
      lines = ap (λ (events : List Happening). events_of (lines_from (Some []) said) ++ events) (map-append to here (replies_to place exchanges))
          ∙ sym (append_assoc (events_of (lines_from (Some []) said)) (map to here) (map to (replies_to place exchanges)))
          ∙ ap (λ (events : List Happening). events ++ map to (replies_to place exchanges)) one.lines ∙ others.lines
          ∙ ap (λ (b : List ℕ). events_of (lines_from (Some []) b)) joined;
      says = others.says ∙ ap (λ (b : List ℕ). record { waiting = []; rest = rest_from (Some []) b }) joined;
    }

pub goes_on : {N : Type 0} (answers : Answering N) (takes : Taking) (old : Served N) (exchanges : List Exchange) (new : Served N) (place : ℕ) (said : List ℕ)
    (before after : PeerState) → Rounds answers takes old exchanges new → peer_at old.peers place ≡ Some before → HasSaid said before
    → peer_at new.peers place ≡ Some after → SaysMore place said exchanges after
goes_on {N} answers takes old [] new place said before after e was is now =
    let same : Some before ≡ Some after = sym was ∙ ap (λ (s : Served N). peer_at s.peers place) (sym e) ∙ now in
    let peer : before ≡ after = cc in
    let end : said ≡ said ++ [] = sym (append-nil said) in
    record {
      lines = append-nil (events_of (lines_from (Some []) said)) ∙ ap (λ (b : List ℕ). events_of (lines_from (Some []) b)) end;
      says = subst (λ p. HasSaid (said ++ []) p) peer (is ∙ ap (λ (b : List ℕ). record { waiting = []; rest = rest_from (Some []) b }) end);
    }
goes_on answers takes old (exchange ∷ exchanges) new place said before after (at, (peers, arrives, flushes), others) was is now =
    elim (says answers old exchange.came exchange.replies exchange.handed (served at.node at.text peers) place said before was is arrives) as
    (λ _. SaysMore place said (exchange ∷ exchanges) after) [
      | inl gone ↦
          let left = rounds_gone answers takes at exchanges new place others (flushed_gone takes (asker exchange.came) peers at.peers place flushes gone) in
          absurd (let e : None ≡ Some after = sym left.1 ∙ now in cc)
      | inr there ↦
          let kept = flushed_there takes (asker exchange.came) peers at.peers place there.0 flushes there.1 in
          goes_on_more place said exchange exchanges there.0 after there.2
          (goes_on answers takes at exchanges new place (said ++ bytes_from place exchange.came) kept.0 after others kept.1 (kept.2 ∙ there.2.says) now)
    ]

pub said_nothing : HasSaid [] at_first
unfolding rest_from parts_from
said_nothing = refl

-- What the guard of a peer makes of all that comes from it, whatever comes between from others.

-- what is taken from peers stays the same
arrival_conduct : {N : Type 0} (answers : Answering N) (old : Served N) (came : Incoming) (replies handed : List Reply) (new : Served N)
    → TakesArrival answers old came replies handed new → new.node.conduct ≡ old.node.conduct
arrival_conduct {N} answers old Opened replies handed new takes = ap (λ (s : Served N). s.node.conduct) takes.2
arrival_conduct {N} answers old (Came place piece) replies handed new (told, others) = piece_conduct (peer_at old.peers place) told
  where
    piece_conduct : (before : Option PeerState) → AnswersWhereThere answers old before piece replies handed new (peer_at new.peers place)
        → new.node.conduct ≡ old.node.conduct
    piece_conduct None told = ap (λ (n : Guarded N). n.conduct) told.2
    piece_conduct (Some peer) told = told.2.conduct
arrival_conduct {N} answers old (Gone place) replies handed new takes = ap (λ (n : Guarded N). n.conduct) takes.1.node
arrival_conduct {N} answers old (Passed moment) replies handed new takes = ap (λ (n : Guarded N). n.conduct) takes.1.node
arrival_conduct {N} answers old (Room place) replies handed new takes = ap (λ (s : Served N). s.node.conduct) takes.2

-- what comes is shown to the guard of the peer from which it comes
guards_step : {N : Type 0} (answers : Answering N) (old : Served N) (came : Incoming) (replies handed : List Reply) (new : Served N) (place : ℕ)
    (peer : PeerState) → peer_at old.peers place ≡ Some peer → TakesArrival answers old came replies handed new
    → StaysOr new.peers place (λ next. GuardsOne old.node.conduct.takes_holdouts place peer.guard came replies handed next.guard)
guards_step {N} answers old Opened replies handed new place peer was (none, unhanded, e) =
    inr (
      peer,
      ap (λ (s : Served N). peer_at s.peers place) e ∙ get_or-append old.peers (Some at_first ∷ []) None place (place_below old.peers place peer was) ∙ was,
      refl,
    )
guards_step answers old (Came from piece) replies handed new place peer was (told, kept) =
    elim (cases_eq from place) as
    (λ _. StaysOr new.peers place (λ next. GuardsOne old.node.conduct.takes_holdouts place peer.guard (Came from piece) replies handed next.guard)) [
      | inl e ↦
          let here : AnswersWhereThere answers old (Some peer) piece replies handed new (peer_at new.peers place) =
          subst (λ (before : Option PeerState). AnswersWhereThere answers old before piece replies handed new (peer_at new.peers place)) was
          (subst (λ p. AnswersWhereThere answers old (peer_at old.peers p) piece replies handed new (peer_at new.peers p)) e told) in
          inr (here.0, here.1, rw (eq-eqb from place e) here.2.guarded)
      | inr other ↦
          inr (
            peer,
            ap (λ (ps : List (Option PeerState)). peer_at ps place) kept
                ∙ get_or-set_other old.peers from place (peer_at new.peers from) None (λ e. other (sym e)) ∙ was,
            rw (ne_eqb from place other) refl,
          )
    ]
guards_step answers old (Gone from) replies handed new place peer was (none, leaves) =
    elim (cases_eq from place) as
    (λ _. StaysOr new.peers place (λ next. GuardsOne old.node.conduct.takes_holdouts place peer.guard (Gone from) replies handed next.guard)) [
      | inl here ↦
          let below = place_below old.peers place peer was in
          inl (
            subst (λ n. place < n) (sym (ap length leaves.peers ∙ length-set old.peers from None)) below,
            ap (λ (ps : List (Option PeerState)). peer_at ps place) (leaves.peers ∙ ap (λ p. set old.peers p None) here)
                ∙ get_or-set_same old.peers place None None below,
          )
      | inr other ↦
          inr (
            peer,
            ap (λ (ps : List (Option PeerState)). peer_at ps place) leaves.peers ∙ get_or-set_other old.peers from place None None (λ e. other (sym e)) ∙ was,
            refl,
          )
    ]
guards_step answers old (Passed moment) replies handed new place peer was (none, ticks) =
    inr (peer, ap (λ (ps : List (Option PeerState)). peer_at ps place) ticks.peers ∙ was, refl)
guards_step {N} answers old (Room from) replies handed new place peer was (none, unhanded, e) =
    inr (peer, ap (λ (s : Served N). peer_at s.peers place) e ∙ was, refl)

pub guards_all : {N : Type 0} (answers : Answering N) (takes : Taking) (old : Served N) (exchanges : List Exchange) (new : Served N) (place : ℕ)
    (before after : PeerState) → Rounds answers takes old exchanges new → peer_at old.peers place ≡ Some before → peer_at new.peers place ≡ Some after
    → GuardsAll old.node.conduct.takes_holdouts place before.guard exchanges after.guard
guards_all {N} answers takes old [] new place before after e was now =
    let same : Some before ≡ Some after = sym was ∙ ap (λ (s : Served N). peer_at s.peers place) (sym e) ∙ now in
    let peer : before ≡ after = cc in
    ap (λ (p : PeerState). p.guard) (sym peer)
guards_all {N} answers takes old (exchange ∷ exchanges) new place before after (at, (peers, arrives, flushes), others) was now =
    elim (guards_step answers old exchange.came exchange.replies exchange.handed (served at.node at.text peers) place before was arrives) as
    (λ _. GuardsAll old.node.conduct.takes_holdouts place before.guard (exchange ∷ exchanges) after.guard) [
      | inl gone ↦
          let left = rounds_gone answers takes at exchanges new place others (flushed_gone takes (asker exchange.came) peers at.peers place flushes gone) in
          absurd (let e : None ≡ Some after = sym left.1 ∙ now in cc)
      | inr there ↦
          let kept = flushed_there takes (asker exchange.came) peers at.peers place there.0 flushes there.1 in
          let conduct = arrival_conduct answers old exchange.came exchange.replies exchange.handed (served at.node at.text peers) arrives in
          let more = guards_all answers takes at exchanges new place kept.0 after others kept.1 now in (
            there.0.guard,
            there.2,
            subst (λ (b : Bool). GuardsAll b place there.0.guard exchanges after.guard) (ap (λ (c : Conduct). c.takes_holdouts) conduct)
                (subst (λ (g : GuardState). GuardsAll at.node.conduct.takes_holdouts place g exchanges after.guard) kept.3 more),
          )
    ]
