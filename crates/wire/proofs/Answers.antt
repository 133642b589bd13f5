-- What devices hold after answers that are gathered and fulfilled together, and how that ends.
use Rattle.std.proofs.Common.{◌≡◌, ◌∙◌, sym, refl, ap, inl, inr, ℕ, ◌+◌, ◌-◌, ◌≤◌, List, ◌++◌, take, drop, length, append_assoc, arith, length-drop, subst, [], ◌∷◌, map, append-nil}
use Rattle.std.specs.Prelude.{Option, Some, None, Ok, ◌⊎◌, Result, Err, IfErr}
use Rattle.std.proofs.lemmas.Bool.{cases_lt}
use Rattle.std.proofs.Math.Seq.{take-add, take-append-add, take-append_seam}
use Rattle.std.proofs.lemmas.List.{take_all, take-append-le, map-append, flat_map_more}
use Rattle.wire.specs.Fulfilled.{grown, IsBegun, Happening, Answering, Scene, scene, Reply, Fulfilled, Handed, fulfilled, kept_text, Faulted, IsPartlyKept, Stream, AreKeptSoFar, BrokenTogether, IsUnanswered, cut_to}
use Rattle.wire.specs.declared.node.Out.{Out}
use Rattle.wire.specs.declared.handing.TurnFault.{TurnFault}
use Rattle.wire.specs.declared.handing.TurnFault.TheVariants.{LinkFault, LedgerFault, Node}
use Rattle.wire.specs.declared.node.NodeFault.{NodeFault}
use Rattle.text.specs.Terms.{BoundedLine}
use Rattle.wire.specs.inside.{AreUncut, HasGathered, TakesAnswer, appended_by}

-- What devices hold after several calls.

-- bytes after bytes
pub grown_twice : (text : Option (List ℕ)) (xs ys : List ℕ) → grown (grown text xs) ys ≡ grown text (xs ++ ys)
grown_twice (Some text) xs ys = ap Some (append_assoc text xs ys)
grown_twice None xs ys = refl

-- the rest of some bytes, cut out to their end
rest_whole : (bytes : List ℕ) (done : ℕ) → take (length bytes - done) (drop done bytes) ≡ drop done bytes
rest_whole bytes done = take_all _ _ (omega (arith, length-drop done bytes))

-- a beginning of the bytes, and then more of them from there
pub grown_part : (text : Option (List ℕ)) (bytes : List ℕ) (done n : ℕ)
    → grown (grown text (take done bytes)) (take n (take (length bytes - done) (drop done bytes))) ≡ grown text (take (done + n) bytes)
grown_part text bytes done n =
    grown_twice text (take done bytes) _
    ∙ ap (λ (rest : List ℕ). grown text (take done bytes ++ take n rest)) (rest_whole bytes done)
    ∙ ap (grown text) (sym (take-add done n bytes))

-- a beginning of the bytes, and then a beginning of the rest of them
pub begun_part : (text middle new : Option (List ℕ)) (bytes : List ℕ) (done : ℕ) → middle ≡ grown text (take done bytes)
    → IsBegun middle (take (length bytes - done) (drop done bytes)) new → IsBegun text bytes new
begun_part text middle new bytes done e begun =
    (done + begun.0, begun.1 ∙ ap (λ (o : Option (List ℕ)). grown o (take begun.0 (take (length bytes - done) (drop done bytes)))) e ∙ grown_part text bytes done begun.0)

-- a part of the rest doesn't go past the end
pub within_part : (bytes : List ℕ) (done n : ℕ) → done ≤ length bytes
    → n ≤ length (take (length bytes - done) (drop done bytes)) → done + n ≤ length bytes
within_part bytes done n within less =
    let e : length (take (length bytes - done) (drop done bytes)) ≡ length bytes - done = ap length (rest_whole bytes done) ∙ length-drop done bytes in
    omega arith

-- a beginning of the first of some bytes
pub begun_first : (text new : Option (List ℕ)) (xs ys : List ℕ) → IsBegun text xs new → IsBegun text (xs ++ ys) new
begun_first text new xs ys begun = elim (cases_lt begun.0 (length xs)) [
  | inl less ↦ (begun.0, begun.1 ∙ ap (grown text) (sym (take-append-le begun.0 xs ys (omega (arith, less)))))
  | inr more ↦ (length xs, begun.1 ∙ ap (grown text) (take_all begun.0 xs (omega (arith, more)) ∙ sym (take-append_seam xs ys)))
]

-- all of the first of some bytes, and a beginning of the others
pub begun_next : (text new : Option (List ℕ)) (xs ys : List ℕ) → IsBegun (grown text xs) ys new → IsBegun text (xs ++ ys) new
begun_next text new xs ys begun =
    (length xs + begun.0, begun.1 ∙ grown_twice text xs (take begun.0 ys) ∙ ap (grown text) (sym (take-append-add xs ys begun.0)))

-- Handing over one event after another.

-- nothing is handed over yet
pub handed_none : {N : Type 0} (answers : Answering N) (old : Scene N) (events : List Happening)
    → Handed answers old events events old
handed_none answers old events = record { replies = []; order = refl; whole = refl }

-- one more answer is fulfilled
pub carried_more : {N : Type 0} (answers : Answering N) (old at : Scene N) (replies : List Reply)
    (event : Happening) (out : Out) (node : N)
    → Fulfilled answers old replies at → answers at.node event (Ok out) node
    → Fulfilled answers old (replies ++ (record { to = event; out = out } ∷ [])) (fulfilled out node at)
carried_more answers old at [] event out node e given =
    (node, subst (λ s. answers s.node event (Ok out) node) e given, ap (λ s. fulfilled out node s) e)
carried_more answers old at (reply ∷ replies) event out node (n, first, whole) given =
    (n, first, carried_more answers (fulfilled reply.out n old) at replies event out node whole given)

-- the events behind those that were handed over
pub order_more : (replies : List Reply) (reply : Reply) (left : List Happening)
    → map (λ (r : Reply). r.to) replies ++ (reply.to ∷ left) ≡ map (λ (r : Reply). r.to) (replies ++ (reply ∷ [])) ++ left
order_more [] reply left = refl
order_more (first ∷ replies) reply left = ap (λ (events : List Happening). first.to ∷ events) (order_more replies reply left)

pub handed_more : {N : Type 0} (answers : Answering N) (old at new : Scene N)
    (events left : List Happening) (event : Happening) (out : Out)
    → Handed answers old events (event ∷ left) at → answers at.node event (Ok out) new.node
    → new.text ≡ kept_text out at.text → new.sent ≡ grown at.sent out.frames.items → Handed answers old events left new
handed_more answers old at new events left event out before given text sent =
    let e : fulfilled out new.node at ≡ new =
    ap (λ (t : Option (List ℕ)). scene new.node t (grown at.sent out.frames.items)) (sym text)
    ∙ ap (λ (s : Option (List ℕ)). scene new.node new.text s) (sym sent) in
    record {
      replies = before.replies ++ (record { to = event; out = out } ∷ []);
      order = before.order ∙ order_more before.replies (record { to = event; out = out }) left;
      whole = subst (λ s. Fulfilled answers old (before.replies ++ (record { to = event; out = out } ∷ [])) s) e
          (carried_more answers old at before.replies event out new.node before.whole given);
    }

-- How the fulfilling out of one answer ends, as what a turn says of it.

-- an answer that wasn't fulfilled whole, for either of the two reasons
pub faulted_by : {N : Type 0} (answers : Answering N) (is_stopped : N → Type 0)
    (old new : Scene N) (event : Happening) (out : Out) (node : N) (r : Result (Unit {0}) TurnFault)
    → answers old.node event (Ok out) node
    → IfErr r (λ fault. (fault ≡ LinkFault) ⊎ (fault ≡ LedgerFault))
    → (r ≡ Err LinkFault → (new.node ≡ node) × (new.text ≡ kept_text out old.text) × IsBegun old.sent out.frames.items new.sent)
    → (r ≡ Err LedgerFault → is_stopped new.node × IsPartlyKept out old.text new.text × (new.sent ≡ old.sent))
    → IfErr r (λ fault. Faulted answers is_stopped old event fault new)
faulted_by answers is_stopped old new event out node (Ok _) given why link ledger = why
faulted_by answers is_stopped old new event out node (Err fault) given (inl e) link ledger =
    let p = link (ap Err e) in
    subst (λ (f : TurnFault). Faulted answers is_stopped old event f new) (sym e)
    (out, subst (λ n. answers old.node event (Ok out) n) (sym p.0) given, p.1, p.2)
faulted_by answers is_stopped old new event out node (Err fault) given (inr e) link ledger =
    let p = ledger (ap Err e) in
    subst (λ (f : TurnFault). Faulted answers is_stopped old event f new) (sym e) (out, node, given, p.0, p.1, p.2)

-- Answers that are gathered, and fulfilled together.
pub grown_none : (text : Option (List ℕ)) → grown text [] ≡ text
grown_none (Some text) = ap Some (append-nil text)
grown_none None = refl

-- an answer that doesn't cut
pub uncut_text : (out : Out) (text : Option (List ℕ)) → out.cut ≡ None → kept_text out text ≡ grown text out.append.items
uncut_text out (Some text) is = rw is refl
uncut_text out None is = refl

uncut_part : (out : Out) (text : Option (List ℕ)) → out.cut ≡ None → cut_to out.cut text ≡ text
uncut_part out (Some text) is = rw is refl
uncut_part out None is = refl

-- a beginning of some bytes and of others behind them
begun_parts : (text new : Option (List ℕ)) (xs ys : List ℕ) → IsBegun text (xs ++ ys) new → IsBegun text xs new ⊎ IsBegun (grown text xs) ys new
begun_parts text new xs ys begun = elim (cases_lt begun.0 (length xs)) [
  | inl less ↦ inl (begun.0, begun.1 ∙ ap (grown text) (take-append-le begun.0 xs ys (omega (arith, less))))
  | inr more ↦ let e : begun.0 ≡ length xs + (begun.0 - length xs) = omega (arith, more) in inr (
    begun.0 - length xs,
    begun.1 ∙ ap (λ (n : ℕ). grown text (take n (xs ++ ys))) e ∙ ap (grown text) (take-append-add xs ys (begun.0 - length xs))
        ∙ sym (grown_twice text xs (take (begun.0 - length xs) ys)),
  )
]

-- a beginning of what answers append that don't cut
so_far : (replies : List Reply) (text new : Option (List ℕ)) → AreUncut replies → IsBegun text (appended_by replies) new → AreKeptSoFar replies text new
so_far [] text new uncut begun = begun.1 ∙ ap (grown text) (take_all begun.0 [] (omega arith)) ∙ grown_none text
so_far (reply ∷ replies) text new uncut begun = elim (begun_parts text new reply.out.append.items (appended_by replies) begun) [
  | inl first ↦ inl (inr (subst (λ (t : Option (List ℕ)). IsBegun t reply.out.append.items new) (sym (uncut_part reply.out text uncut.0)) first))
  | inr more ↦ inr (so_far replies (kept_text reply.out text) new uncut.1
      (subst (λ (t : Option (List ℕ)). IsBegun t (appended_by replies) new) (sym (uncut_text reply.out text uncut.0)) more))
]

nothing_so_far : (replies : List Reply) (text new : Option (List ℕ)) → new ≡ text → AreKeptSoFar replies text new
nothing_so_far [] text new is = is
nothing_so_far (reply ∷ replies) text new is = inl (inl is)

-- what is gathered is partly kept
pub gathered_so_far : (replies : List Reply) (gathered : Out) (text new : Option (List ℕ)) → AreUncut replies → gathered.cut ≡ None
    → gathered.append.items ≡ appended_by replies → IsPartlyKept gathered text new → AreKeptSoFar replies text new
gathered_so_far replies gathered text new uncut cut append (inl same) = nothing_so_far replies text new same
gathered_so_far replies gathered text new uncut cut append (inr begun) =
    so_far replies text new uncut
    (subst (λ (t : Option (List ℕ)). IsBegun t (appended_by replies) new) (uncut_part gathered text cut)
    (subst (λ (bytes : List ℕ). IsBegun (cut_to gathered.cut text) bytes new) append begun))

-- one answer more
pub so_far_more : (replies : List Reply) (reply : Reply) (text new : Option (List ℕ)) → AreKeptSoFar replies text new
    → AreKeptSoFar (replies ++ (reply ∷ [])) text new
so_far_more [] reply text new is = inl (inl is)
so_far_more (first ∷ replies) reply text new (inl part) = inl part
so_far_more (first ∷ replies) reply text new (inr more) = inr (so_far_more replies reply (kept_text first.out text) new more)

-- the last answer is partly kept
pub so_far_last : (replies : List Reply) (reply : Reply) (text new : Option (List ℕ)) → AreUncut replies
    → IsPartlyKept reply.out (grown text (appended_by replies)) new → AreKeptSoFar (replies ++ (reply ∷ [])) text new
so_far_last [] reply text new uncut part = inl (subst (λ (t : Option (List ℕ)). IsPartlyKept reply.out t new) (grown_none text) part)
so_far_last (first ∷ replies) reply text new uncut part =
    let e : grown text (first.out.append.items ++ appended_by replies) ≡ grown (kept_text first.out text) (appended_by replies) =
    sym (grown_twice text first.out.append.items (appended_by replies)) ∙ ap (λ (t : Option (List ℕ)). grown t (appended_by replies)) (sym (uncut_text first.out text uncut.0)) in
    inr (so_far_last replies reply (kept_text first.out text) new uncut.1 (subst (λ (t : Option (List ℕ)). IsPartlyKept reply.out t new) e part))

uncut_more : (replies : List Reply) (reply : Reply) → AreUncut replies → reply.out.cut ≡ None → AreUncut (replies ++ (reply ∷ []))
uncut_more [] reply uncut is = (is, tt)
uncut_more (first ∷ replies) reply uncut is = (uncut.0, uncut_more replies reply uncut.1 is)

module _ {N : Type 0} (answers : Answering N) where
  -- more answers behind others
  fulfilled_after : (old at new : Scene N) (replies more : List Reply) → Fulfilled answers old replies at → Fulfilled answers at more new
      → Fulfilled answers old (replies ++ more) new
  fulfilled_after old at new [] more is next = subst (λ s. Fulfilled answers s more new) is next
  fulfilled_after old at new (reply ∷ replies) more is next = (is.0, is.1, fulfilled_after (fulfilled reply.out is.0 old) at new replies more is.2 next)

  pub handed_after : (old at new : Scene N) (events left : List Happening) (more : List Reply)
      → Handed answers old events (map (λ (r : Reply). r.to) more ++ left) at → Fulfilled answers at more new → Handed answers old events left new
  handed_after old at new events left more before is = record {
    replies = before.replies ++ more;
    order = before.order ∙ sym (append_assoc (map (λ (r : Reply). r.to) before.replies) (map (λ (r : Reply). r.to) more) left)
        ∙ ap (λ (es : List Happening). es ++ left) (sym (map-append (λ (r : Reply). r.to) before.replies more));
    whole = fulfilled_after old at new before.replies more before.whole is;
  }

  -- nothing is gathered
  pub gathered_none : (old : Scene N) (events left : List Happening) (text sent : Option (List ℕ)) (gathered : Out) (node : N)
      → Handed answers old events left (scene node text sent) → gathered.cut ≡ None → gathered.append.items ≡ [] → gathered.frames.items ≡ []
      → HasGathered answers old events left text sent gathered node
  gathered_none old events left text sent gathered node before cut append frames = record {
    first = node;
    replies = [];
    before = before;
    answered = ap (λ (t : Option (List ℕ)). scene node t (grown sent gathered.frames.items)) (ap (grown text) append ∙ grown_none text)
        ∙ ap (scene node text) (ap (grown sent) frames ∙ grown_none sent);
    uncut = tt;
    cut = cut;
    append = append;
    frames = frames;
  }

  -- what is gathered, fulfilled
  pub gathered_whole : (old : Scene N) (events left : List Happening) (text sent : Option (List ℕ)) (gathered : Out) (node : N)
      → HasGathered answers old events left text sent gathered node
      → Handed answers old events left (scene node (grown text gathered.append.items) (grown sent gathered.frames.items))
  gathered_whole old events left text sent gathered node is =
      handed_after old (scene is.first text sent) _ events left is.replies is.before is.answered

  module _ (old : Scene N) (events left : List Happening) (text sent : Option (List ℕ)) (gathered : Out) (node : N) (event : Happening)
      (is : HasGathered answers old events (event ∷ left) text sent gathered node) (out : Out) (next : N) (given : answers node event (Ok out) next) where
    abbrev reply : Reply
    reply = record { to = event; out = out }

    behind : Handed answers old events (map (λ (r : Reply). r.to) (is.replies ++ (reply ∷ [])) ++ left) (scene is.first text sent)
    behind = subst (λ (es : List Happening). Handed answers old events es (scene is.first text sent)) (order_more is.replies reply left) is.before

    more : Fulfilled answers (scene is.first text sent) (is.replies ++ (reply ∷ []))
        (scene next (kept_text out (grown text gathered.append.items)) (grown (grown sent gathered.frames.items) out.frames.items))
    more = carried_more answers (scene is.first text sent) (scene node (grown text gathered.append.items) (grown sent gathered.frames.items)) is.replies event out next is.answered given

    -- one answer more
    pub gathered_more : (new : Out) → out.cut ≡ None → new.cut ≡ None → new.append.items ≡ gathered.append.items ++ out.append.items
        → new.frames.items ≡ gathered.frames.items ++ out.frames.items → HasGathered answers old events left text sent new next
    gathered_more new uncut cut append frames =
        let texts : kept_text out (grown text gathered.append.items) ≡ grown text new.append.items =
        uncut_text out (grown text gathered.append.items) uncut ∙ grown_twice text gathered.append.items out.append.items ∙ ap (grown text) (sym append) in
        let sents : grown (grown sent gathered.frames.items) out.frames.items ≡ grown sent new.frames.items =
        grown_twice sent gathered.frames.items out.frames.items ∙ ap (grown sent) (sym frames) in
        record {
          first = is.first;
          replies = is.replies ++ (reply ∷ []);
          before = behind;
          answered = subst (λ (t : Option (List ℕ)). Fulfilled answers (scene is.first text sent) (is.replies ++ (reply ∷ [])) (scene next t (grown sent new.frames.items))) texts
              (subst (λ (s : Option (List ℕ)). Fulfilled answers (scene is.first text sent) (is.replies ++ (reply ∷ [])) (scene next (kept_text out (grown text gathered.append.items)) s)) sents more);
          uncut = uncut_more is.replies reply is.uncut uncut;
          cut = cut;
          append = append ∙ ap (λ (xs : List ℕ). xs ++ out.append.items) is.append ∙ flat_map_more (λ (r : Reply). r.out.append.items) [] is.replies reply;
          frames = frames ∙ ap (λ (xs : List ℕ). xs ++ out.frames.items) is.frames ∙ flat_map_more (λ (r : Reply). r.out.frames.items) [] is.replies reply;
        }

    -- an answer that is taken
    pub taken : (new : Out) (new_text new_sent : Option (List ℕ)) → new.cut ≡ gathered.cut → TakesAnswer gathered out text sent new new_text new_sent
        → HasGathered answers old events left new_text new_sent new next
    taken new new_text new_sent cut (inl (uncut, append, frames, texts, sents)) =
        subst (λ (t : Option (List ℕ)). HasGathered answers old events left t new_sent new next) (sym texts)
        (subst (λ (s : Option (List ℕ)). HasGathered answers old events left text s new next) (sym sents)
        (gathered_more new uncut (cut ∙ is.cut) append frames))
    taken new new_text new_sent cut (inr (append, frames, texts, sents)) =
        let whole = handed_after old (scene is.first text sent) _ events left (is.replies ++ (reply ∷ [])) behind more in
        let e : kept_text out (grown text gathered.append.items) ≡ new_text = ap (kept_text out) (sym (uncut_text gathered text is.cut)) ∙ sym texts in
        gathered_none old events left new_text new_sent new next
        (subst (λ (t : Option (List ℕ)). Handed answers old events left (scene next t new_sent)) e
        (subst (λ (s : Option (List ℕ)). Handed answers old events left (scene next (kept_text out (grown text gathered.append.items)) s)) (sym sents) whole))
        (cut ∙ is.cut) append frames

    -- an answer that isn't
    pub untaken : (is_stopped : N → Type 0) (new : Scene N) (r : Result (Unit {0}) TurnFault)
        → IfErr r (λ fault. (fault ≡ LinkFault) ⊎ (fault ≡ LedgerFault))
        → (r ≡ Err LinkFault → (new.node ≡ next) × (new.text ≡ kept_text out (kept_text gathered text))
        × IsBegun sent (gathered.frames.items ++ out.frames.items) new.sent)
        → (r ≡ Err LedgerFault → is_stopped new.node
        × (IsPartlyKept gathered text new.text ⊎ IsPartlyKept out (kept_text gathered text) new.text) × (new.sent ≡ sent))
        → IfErr r (λ fault. BrokenTogether answers is_stopped old events fault left new)
    untaken is_stopped new (Ok done) why link ledger = why
    untaken is_stopped new (Err fault) (inl e) link ledger =
        let (same, texts, begun) = link (ap Err e) in
        subst (λ (f : TurnFault). BrokenTogether answers is_stopped old events f left new) (sym e) (record {
          replies = is.replies ++ (reply ∷ []);
          unanswered = [];
          at = scene is.first text sent;
          before = behind;
          faulted = (
            _,
            more,
            same,
            texts ∙ ap (kept_text out) (uncut_text gathered text is.cut),
            subst (λ (bytes : List ℕ). IsBegun sent bytes new.sent)
                (ap (λ (xs : List ℕ). xs ++ out.frames.items) is.frames ∙ flat_map_more (λ (r : Reply). r.out.frames.items) [] is.replies reply) begun,
          );
        })
    untaken is_stopped new (Err fault) (inr e) link ledger =
        let (stops, part, sents) = ledger (ap Err e) in
        let so : AreKeptSoFar (is.replies ++ (reply ∷ [])) text new.text = elim part [
          | inl first ↦ so_far_more is.replies reply text new.text (gathered_so_far is.replies gathered text new.text is.uncut is.cut is.append first)
          | inr last ↦ so_far_last is.replies reply text new.text is.uncut
              (subst (λ (t : Option (List ℕ)). IsPartlyKept out t new.text) (uncut_text gathered text is.cut ∙ ap (grown text) is.append) last)
        ] in
        subst (λ (f : TurnFault). BrokenTogether answers is_stopped old events f left new) (sym e) (record {
          replies = is.replies ++ (reply ∷ []);
          unanswered = [];
          at = scene is.first text sent;
          before = behind;
          faulted = (_, next, more, refl, stops, so, sents);
        })

  -- what is gathered isn't fulfilled, and behind it something may have brought no answer
  pub unfulfilled : (is_stopped : N → Type 0) (old : Scene N) (events unanswered left : List Happening) (text sent : Option (List ℕ)) (gathered : Out) (node next : N)
      → HasGathered answers old events (unanswered ++ left) text sent gathered node → IsUnanswered answers node unanswered next
      → (new : Scene N) (r : Result (Unit {0}) TurnFault)
      → IfErr r (λ fault. (fault ≡ LinkFault) ⊎ (fault ≡ LedgerFault))
      → (r ≡ Err LinkFault → (new.node ≡ next) × (new.text ≡ kept_text gathered text) × IsBegun sent gathered.frames.items new.sent)
      → (r ≡ Err LedgerFault → is_stopped new.node × IsPartlyKept gathered text new.text × (new.sent ≡ sent))
      → IfErr r (λ fault. BrokenTogether answers is_stopped old events fault left new)
  unfulfilled is_stopped old events unanswered left text sent gathered node next is none new (Ok done) why link ledger = why
  unfulfilled is_stopped old events unanswered left text sent gathered node next is none new (Err fault) (inl e) link ledger =
      let (same, texts, begun) = link (ap Err e) in
      subst (λ (f : TurnFault). BrokenTogether answers is_stopped old events f left new) (sym e) (record {
        replies = is.replies;
        unanswered = unanswered;
        at = scene is.first text sent;
        before = is.before;
        faulted = (
          _,
          is.answered,
          subst (λ n. IsUnanswered answers node unanswered n) (sym same) none,
          texts ∙ uncut_text gathered text is.cut,
          subst (λ (bytes : List ℕ). IsBegun sent bytes new.sent) is.frames begun,
        );
      })
  unfulfilled is_stopped old events unanswered left text sent gathered node next is none new (Err fault) (inr e) link ledger =
      let (stops, part, sents) = ledger (ap Err e) in
      subst (λ (f : TurnFault). BrokenTogether answers is_stopped old events f left new) (sym e) (record {
        replies = is.replies;
        unanswered = unanswered;
        at = scene is.first text sent;
        before = is.before;
        faulted = (_, next, is.answered, none, stops, gathered_so_far is.replies gathered text new.text is.uncut is.cut is.append part, sents);
      })

  -- the node gave no answer, when what was gathered was fulfilled
  pub node_faulted : (is_stopped : N → Type 0) (old : Scene N) (events left : List Happening) (text sent : Option (List ℕ)) (gathered : Out) (node : N) (event : Happening)
      → HasGathered answers old events (event ∷ left) text sent gathered node → (fault : NodeFault) (new : Scene N) → answers node event (Err fault) new.node
      → new.text ≡ kept_text gathered text → new.sent ≡ grown sent gathered.frames.items
      → BrokenTogether answers is_stopped old events (Node fault) left new
  node_faulted is_stopped old events left text sent gathered node event is fault new given texts sents = record {
    replies = [];
    unanswered = event ∷ [];
    at = scene node (grown text gathered.append.items) (grown sent gathered.frames.items);
    before = gathered_whole old events (event ∷ left) text sent gathered node is;
    faulted = (event, refl, refl, (given, texts ∙ uncut_text gathered text is.cut, sents));
  }

-- what is so of each fault, for all that may have come before
pub all_faults : {N : Type 0} {P : Scene N → List Happening → List Happening → Type 0}
    (Q : TurnFault → Scene N → List Happening → List Happening → Type 0) (r : Result (Unit {0}) TurnFault)
    → ((old : Scene N) (events left : List Happening) → P old events left → IfErr r (λ fault. Q fault old events left))
    → IfErr r (λ fault. (old : Scene N) (events left : List Happening) → P old events left → Q fault old events left)
all_faults Q (Ok done) all = tt
all_faults Q (Err fault) all = all

-- what was handed over, of a scene that is the same
pub at_scene : {N : Type 0} (answers : Answering N) (old : Scene N) (events left : List Happening) (node next : N) (text new_text sent new_sent : Option (List ℕ))
    → next ≡ node → new_text ≡ text → new_sent ≡ sent → Handed answers old events left (scene node text sent) → Handed answers old events left (scene next new_text new_sent)
at_scene answers old events left node next text new_text sent new_sent nodes texts sents is =
    subst (λ n. Handed answers old events left (scene n new_text new_sent)) (sym nodes)
    (subst (λ (t : Option (List ℕ)). Handed answers old events left (scene node t new_sent)) (sym texts)
    (subst (λ (s : Option (List ℕ)). Handed answers old events left (scene node text s)) (sym sents) is))

-- no line is left
pub lines_left : (left first : Stream) → left.waiting ≡ [] → left.rest ≡ first.rest → left ≡ record { waiting = []; rest = first.rest }
lines_left left first none rest = ap (λ (w : List BoundedLine). record { waiting = w; rest = left.rest }) none ∙ ap (λ (r : BoundedLine). record { waiting = []; rest = r }) rest
