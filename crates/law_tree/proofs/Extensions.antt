-- Where runs halt, and what a machine's extensions attain: its best comes from its children's bests.
use Rattle.std.proofs.Common.{◌≡◌, ℕ, suc, zero, ◌<◌, Some, None, refl, sym, ◌∙◌, ap, subst, arith, ◌≤◌, Option, ◌⊎◌, inl, inr, ◌↔◌}
use Rattle.std.proofs.lemmas.Option.{same_Some}
use Rattle.std.proofs.lemmas.Bool.Decides.{nat_tests}
use Rattle.std.proofs.lemmas.Bool.{cases_lt}
use Rattle.machine_text.specs.declared.table.Sym.{Sym}
use Rattle.machine_text.specs.declared.table.Entry.{Entry}
use Rattle.machine_text.specs.Terms.{holes}
use Rattle.law_turing.specs.Terms.{Machine, IsMachine, symbol_read, Config, start, done_by, next, after, Extends, with_exchanged, mirrored, exchanged, exchanged_entry, mirrored_entry, HaltsAt, Never, HaltsWith, score_of}
use Rattle.law_turing.proofs.RunLaws.{takes, halts_at_pair, from_zero, next_is, before, same_run, one_count, one_end, never_extends}
use Rattle.law_tree.specs.Tree.{InOrder, HaltsOn, Scores, IsEmpty, filled, IsChildEntry, Attains, IsBest, IsGreatestOf}
use Rattle.law_tree.specs.Tree.IsUsed.{Target, Source}
use Rattle.law_tree.proofs.Used.{some_used}
use Rattle.law_tree.proofs.Filling.{none_open, cases_option, extends_itself, extends_twice, extends_filled, filled_extends, filled_machine, cases_empty, only_one}
use Rattle.law_turing.proofs.Renaming.{exchange_keeps, exchange_keeps_score, mirror_keeps, mirror_keeps_score}
use Rattle.machine_text.specs.declared.table.Dir.{Dir}
use Rattle.machine_text.specs.declared.table.Dir.TheVariants.{L, R}
use Rattle.law_tree.proofs.ChildEntries.{same_entry}

-- Where a run halts: on an undefined pair of a used state; a full machine never does; and a machine whose
-- extension leaves that pair undefined halts as the extension does.

-- what holds of A and of each target holds of each state of the run
pub state_within : (P : ℕ → Type 0) (m : Machine) → P 0 → ((q : ℕ) (s : Sym) (e : Entry) → m q s ≡ Some e → P e.next.0) →
    (k : ℕ) (c : Config) → after m k ≡ Some c → P c.state
state_within P m first targets zero c is =
    let same : start ≡ c = same_Some start c (sym (from_zero m start) ∙ is) in
    subst (λ (d : Config). P d.state) same first
state_within P m first targets (suc k) c is =
    let b = before m k (suc k) start c (omega arith) is in
    let t = takes m b.0 c (sym (next_is m k start b.0 b.1) ∙ is) in
    subst P (sym t.1.state) (targets b.0.state (symbol_read b.0.tape) t.0 t.1.is)

-- the pair on which a run halts is undefined
pub stops_at_pair : (m : Machine) (k : ℕ) (h : HaltsAt m k) → m h.at.state (symbol_read h.at.tape) ≡ None
stops_at_pair m k h = halts_at_pair m h.at h.over

pub pair_undefined : (m : Machine) (k q : ℕ) (s : Sym) → HaltsOn m k q s → m q s ≡ None
pair_undefined m k q s h = rw (← h.state, ← h.symbol) (stops_at_pair m k h.halts)

-- a run that halts does so on a pair
pub stops_on : (m : Machine) (k : ℕ) (h : HaltsAt m k) → HaltsOn m k h.at.state (symbol_read h.at.tape)
stops_on m k h = record { halts = h; state = refl; symbol = refl }

-- its state is one of the n states, and a used one
pub pair_within : (n : ℕ) (m : Machine) (k q : ℕ) (s : Sym) → IsMachine n m → HaltsOn m k q s → q < n
pair_within n m k q s i h = rw (← h.state) (state_within (λ x. x < n) m (let some = i.some in omega arith) i.inside h.halts.last h.halts.at h.halts.is)

pub pair_used : (u : ℕ) (m : Machine) (k q : ℕ) (s : Sym) → InOrder u m → HaltsOn m k q s → q < u
pair_used u m k q s o h =
    rw (← h.state) (state_within (λ x. x < u) m (some_used u m o) (λ p r e is. o.only e.next.0 (Target p r e is refl)) h.halts.last h.halts.at h.halts.is)

-- a machine in which each pair has an entry never halts
pub full_never : (n : ℕ) (m : Machine) → IsMachine n m → holes n m ≡ 0 → Never m
full_never n m i full k h =
    let on = stops_on m k h in
    none_open n m full h.at.state (symbol_read h.at.tape) (pair_within n m k h.at.state (symbol_read h.at.tape) i on) (stops_at_pair m k h)

-- where an extension leaves the pair undefined, it halts there too
pub stops_too : (big m : Machine) (k q : ℕ) (s : Sym) → Extends big m → (h : HaltsOn m k q s) → big q s ≡ None → (b : HaltsAt big k) × (b.at ≡ h.halts.at)
stops_too big m k q s x h none =
    let gone : big h.halts.at.state (symbol_read h.halts.at.tape) ≡ None = rw (h.state, h.symbol) none in
    let over : next big h.halts.at ≡ None = ap (done_by h.halts.at) gone in
    (record { last = h.halts.last; at = h.halts.at; is = same_run big m x h.halts.last start h.halts.at h.halts.is; over = over; count = h.halts.count }, refl)

-- What a halting run is worth: its number of steps, or its score. All that the theorem of the tree asks of it.
pub record IsWorth (V : Machine → ℕ → Type 0) : Type 0 where
  -- a machine has one worth at most, and only where it halts
  pub one : (m : Machine) (j k : ℕ) → V m j → V m k → j ≡ k
  pub halts : (m : Machine) (t : ℕ) → V m t → (k : ℕ) × HaltsAt m k
  -- an extension that halts on the pair on which m does has m's worth
  pub down : (big m : Machine) (k q : ℕ) (s : Sym) (t : ℕ) → Extends big m → HaltsOn m k q s → big q s ≡ None → V big t → V m t
  -- states other than A may be exchanged, and the moves turned round
  pub exchanged : (a b : ℕ) (m : Machine) (t : ℕ) → 0 < a → 0 < b → V m t → V (with_exchanged a b m) t
  pub mirrored : (m : Machine) (t : ℕ) → V m t → V (mirrored m) t

-- the number of steps
pub steps_worth : IsWorth HaltsAt
steps_worth = record {
  one = one_count;
  halts = λ m t h. (t, h);
  down = λ big m k q s t x h none b. subst (HaltsAt m) (one_count big k t (stops_too big m k q s x h none).0 b) h.halts;
  exchanged = λ a b m t pa pb h. exchange_keeps a b m t pa pb h;
  mirrored = λ m t h. mirror_keeps m t h;
}

-- the score
pub score_worth : IsWorth Scores
score_worth = record {
  one = λ m j k v w. v.1.score ∙ ap score_of (one_end m v.0 w.0 v.1.halts w.1.halts) ∙ sym w.1.score;
  halts = λ m t v. (v.0, v.1.halts);
  down = λ big m k q s t x h none v.
      let b = stops_too big m k q s x h none in
      (k, record { halts = h.halts; score = v.1.score ∙ ap score_of (one_end big v.0 k v.1.halts b.0 ∙ b.1) });
  exchanged = λ a b m t pa pb v. (v.0, exchange_keeps_score a b m v.0 t pa pb v.1);
  mirrored = λ m t v. (v.0, mirror_keeps_score m v.0 t v.1);
}

-- a machine that halts in k and has a score halts in k with it
pub score_count : (m : Machine) (k s : ℕ) → HaltsAt m k → Scores m s → HaltsWith m k s
score_count m k s h v = record { halts = h; score = v.1.score ∙ ap score_of (one_end m v.0 k v.1.halts h) }

-- An extension with two states exchanged that m doesn't use, and an extension of an empty machine turned round,
-- are extensions again.

-- the exchange of states below n, state by state
exchanged_below : (a b q n : ℕ) → a < n → b < n → q < n → exchanged a b q < n
exchanged_below a b q n la lb lq = grind (arith, nat_tests)

exchanged_past : (a b q n : ℕ) → a < n → b < n → n ≤ q → exchanged a b q ≡ q
exchanged_past a b q n la lb le = grind (arith, nat_tests)

pub exchanged_kept : (a b q : ℕ) → q < a → a < b → exchanged a b q ≡ q
exchanged_kept a b q lq lt = grind (arith, nat_tests)

pub exchanged_second : (a b : ℕ) → exchanged a b b ≡ a
exchanged_second a b = grind (arith, nat_tests)

-- an entry of the exchanged machine comes from one of the machine
entry_back : (a b : ℕ) (o : Option Entry) (e : Entry) → exchanged_entry a b o ≡ Some e → (d : Entry) × (o ≡ Some d) × (e.next.0 ≡ exchanged a b d.next.0)
entry_back a b None e h = absurd (cc)
entry_back a b (Some d) e h = (d, refl, sym (ap (λ (x : Entry). x.next.0) (same_Some _ e h)))

-- the exchange makes a machine of n states into one
pub exchanged_machine : (n a b : ℕ) (m : Machine) → IsMachine n m → a < n → b < n → IsMachine n (with_exchanged a b m)
exchanged_machine n a b m i la lb = record { some = i.some; beyond = beyond; inside = inside }
  where
    beyond : (q : ℕ) (s : Sym) → n ≤ q → with_exchanged a b m q s ≡ None
    beyond q s le = ap (exchanged_entry a b) (ap (λ p. m p s) (exchanged_past a b q n la lb le) ∙ i.beyond q s le)

    inside : (q : ℕ) (s : Sym) (e : Entry) → with_exchanged a b m q s ≡ Some e → e.next.0 < n
    inside q s e h =
        let back = entry_back a b (m (exchanged a b q) s) e h in
        rw back.2 (exchanged_below a b back.0.next.0 n la lb (i.inside (exchanged a b q) s back.0 back.1))

-- what goes from a used state to a used one isn't changed, where both exchanged ones are unused
pub exchanged_extends : (u v : ℕ) (big m : Machine) → InOrder u m → u < v → Extends big m → Extends (with_exchanged u v big) m
exchanged_extends u v big m o lt x = record { is = go }
  where
    go : (q : ℕ) (s : Sym) (e : Entry) → m q s ≡ Some e → with_exchanged u v big q s ≡ Some e
    go q s e h =
        let source = exchanged_kept u v q (o.only q (Source s e h)) lt in
        let target = exchanged_kept u v e.next.0 (o.only e.next.0 (Target q s e h refl)) lt in
        ap (λ p. exchanged_entry u v (big p s)) source ∙ ap (exchanged_entry u v) (x.is q s e h) ∙ ap Some (same_entry _ e refl refl target)

-- the entry at a used pair, with its target exchanged
pub exchanged_at : (u v q : ℕ) (s : Sym) (big : Machine) (e : Entry) → q < u → u < v → big q s ≡ Some e → e.next.0 ≡ v →
    with_exchanged u v big q s ≡ Some (record { write = e.write; dir = e.dir; next = record { 0 = u } })
exchanged_at u v q s big e lq lt is to =
    ap (λ p. exchanged_entry u v (big p s)) (exchanged_kept u v q lq lt) ∙ ap (exchanged_entry u v) is
    ∙ ap Some (same_entry _ (record { write = e.write; dir = e.dir; next = record { 0 = u } }) refl refl (ap (exchanged u v) to ∙ exchanged_second u v))

-- the mirror image of a machine is a machine
mirror_back : (o : Option Entry) (e : Entry) → mirrored_entry o ≡ Some e → (d : Entry) × (o ≡ Some d) × (e.next.0 ≡ d.next.0)
mirror_back None e h = absurd (cc)
mirror_back (Some d) e h = (d, refl, sym (ap (λ (x : Entry). x.next.0) (same_Some _ e h)))

pub mirrored_machine : (n : ℕ) (m : Machine) → IsMachine n m → IsMachine n (mirrored m)
mirrored_machine n m i = record { some = i.some; beyond = λ q s le. ap mirrored_entry (i.beyond q s le); inside = inside }
  where
    inside : (q : ℕ) (s : Sym) (e : Entry) → mirrored m q s ≡ Some e → e.next.0 < n
    inside q s e h =
        let back = mirror_back (m q s) e h in
        rw back.2 (i.inside q s back.0 back.1)

-- every machine extends an empty one
pub extends_any_empty : (big m : Machine) → IsEmpty m → Extends big m
extends_any_empty big m empty = record { is = λ q s e h. let none = empty.is q s in absurd (cc) }

-- an entry to the left is turned to the right
pub turned_right : (q : ℕ) (s : Sym) (big : Machine) (e : Entry) → big q s ≡ Some e → e.dir ≡ L →
    mirrored big q s ≡ Some (record { write = e.write; dir = R; next = e.next })
turned_right q s big e is left = ap mirrored_entry is ∙ ap (λ d. mirrored_entry (Some (record { write = e.write; dir = d; next = e.next }))) left

pub cases_direction : (d : Dir) → (d ≡ R) ⊎ (d ≡ L)
cases_direction L = inr refl
cases_direction R = inl refl

-- What the extensions of a machine attain: what the machine itself and the extensions of its children attain.
module _ (V : Machine → ℕ → Type 0) (w : IsWorth V) where
  -- a machine is one of its own extensions
  pub attains_itself : (n : ℕ) (m : Machine) (t : ℕ) → IsMachine n m → V m t → Attains V n m t
  attains_itself n m t i v = record { big = m; is_machine = i; extends = extends_itself m; worth = v }

  -- what extends an extension extends the machine
  pub attains_below : (n : ℕ) (c m : Machine) (t : ℕ) → Extends c m → Attains V n c t → Attains V n m t
  attains_below n c m t x a = record { big = a.big; is_machine = a.is_machine; extends = extends_twice a.big c m a.extends x; worth = a.worth }

  pub attains_child : (n : ℕ) (m : Machine) (q : ℕ) (s : Sym) (e : Entry) (t : ℕ) → m q s ≡ None → Attains V n (filled m q s e) t → Attains V n m t
  attains_child n m q s e t none a = attains_below n (filled m q s e) m t (filled_extends m q s e none) a

  -- no extension of a machine that never halts attains anything
  pub never_attains : (n : ℕ) (m : Machine) (t : ℕ) → Never m → Attains V n m t → ⊥
  never_attains n m t never a =
      let h = w.halts a.big t a.worth in
      never_extends a.big m a.extends never h.0 h.1

  -- an extension of a machine that halts on its only undefined pair halts there, or is full
  pub only_attains : (n : ℕ) (m : Machine) (k q : ℕ) (s : Sym) (t : ℕ) → IsMachine n m → holes n m ≤ 1 → HaltsOn m k q s → Attains V n m t → V m t
  only_attains n m k q s t i one h a = elim (cases_option (a.big q s)) [
    | inl none ↦ w.down a.big m k q s t a.extends h none a.worth
    | inr there ↦ (
        let within = pair_within n m k q s i h in
        let undefined = pair_undefined m k q s h in
        let e = there.0 in
        let full = full_never n (filled m q s e) (filled_machine n m q s e i within (a.is_machine.inside q s e there.1)) (only_one n m q s e one within undefined) in
        absurd (never_attains n (filled m q s e) t full (record { big = a.big; is_machine = a.is_machine; extends = extends_filled a.big m q s e a.extends there.1; worth = a.worth })))
  ]

  -- m halts in k on a pair, in order; t is attained by m itself or by a child
  module _ (n u : ℕ) (m : Machine) (k q : ℕ) (s : Sym) (t : ℕ) (i : IsMachine n m) (o : InOrder u m) (h : HaltsOn m k q s) where
    abbrev ByChild : Type 0
    ByChild = (e : Entry) × IsChildEntry n u m e × Attains V n (filled m q s e) t

    -- an extension whose entry at the pair may be a child's
    of_target : (big : Machine) (e : Entry) → IsMachine n big → Extends big m → V big t → big q s ≡ Some e → e.next.0 ≤ u → (IsEmpty m → e.dir ≡ R) → ByChild
    of_target big e j x v is target right =
        (e, record { within = j.inside q s e is; target = target; right = right }, record { big = big; is_machine = j; extends = extends_filled big m q s e x is; worth = v })

    -- one whose entry goes to any state: a later unused state is exchanged with the first
    of_right : (big : Machine) (e : Entry) → IsMachine n big → Extends big m → V big t → big q s ≡ Some e → (IsEmpty m → e.dir ≡ R) → ByChild
    of_right big e j x v is right = elim (cases_lt u e.next.0) [
      | inr le ↦ of_target big e j x v is le right
      | inl lt ↦ (
          let within = j.inside q s e is in
          let new : Entry = record { write = e.write; dir = e.dir; next = record { 0 = u } } in
          of_target (with_exchanged u e.next.0 big) new (exchanged_machine n u e.next.0 big j (omega arith) within) (exchanged_extends u e.next.0 big m o lt x)
          (w.exchanged u e.next.0 big t (some_used u m o) (omega arith) v)
          (exchanged_at u e.next.0 q s big e (pair_used u m k q s o h) lt is refl) (omega arith) right)
    ]

    -- one whose entry goes any way: where m is empty, a move to the left is turned round
    of_any : (big : Machine) (e : Entry) → IsMachine n big → Extends big m → V big t → big q s ≡ Some e → ByChild
    of_any big e j x v is = elim (cases_empty n m i) [
      | inr some ↦ of_right big e j x v is (λ empty. absurd (some.0 empty))
      | inl empty ↦ elim (cases_direction e.dir) [
        | inl right ↦ of_right big e j x v is (λ _. right)
        | inr left ↦ of_right (mirrored big) (record { write = e.write; dir = R; next = e.next }) (mirrored_machine n big j) (extends_any_empty (mirrored big) m empty.0)
            (w.mirrored big t v) (turned_right q s big e is left) (λ _. refl)
      ]
    ]

    pub covered : Attains V n m t → V m t ⊎ ByChild
    covered a = elim (cases_option (a.big q s)) [
      | inl none ↦ inl (w.down a.big m k q s t a.extends h none a.worth)
      | inr there ↦ inr (of_any a.big there.0 a.is_machine a.extends a.worth there.1)
    ]

    pub covers : V m t ⊎ ByChild → Attains V n m t
    covers c = elim c [
      | inl own ↦ attains_itself n m t i own
      | inr child ↦ attains_child n m q s child.0 t (pair_undefined m k q s h) child.2
    ]

-- The best of a machine by the bests of its children.
module _ (V : Machine → ℕ → Type 0) (w : IsWorth V) where
  -- what a best says of what is attained
  pub best_attained : (n : ℕ) (m : Machine) (b : Option ℕ) (s : ℕ) → IsBest V n m b → b ≡ Some s → Attains V n m s
  best_attained n m None s best is = absurd (cc)
  best_attained n m (Some x) s best is = subst (Attains V n m) (same_Some x s is) best.0

  pub best_bounds : (n : ℕ) (m : Machine) (b : Option ℕ) (t : ℕ) → IsBest V n m b → Attains V n m t → (s : ℕ) × (b ≡ Some s) × (t ≤ s)
  best_bounds n m None t best a = absurd (best t a)
  best_bounds n m (Some x) t best a = (x, refl, best.1 t a)

  -- a machine that never halts, and a full one, have none
  pub never_best : (n : ℕ) (m : Machine) → Never m → IsBest V n m None
  never_best n m never t a = never_attains V w n m t never a

  pub full_best : (n : ℕ) (m : Machine) → IsMachine n m → holes n m ≡ 0 → IsBest V n m None
  full_best n m i full = never_best n m (full_never n m i full)

  -- a machine that halts on its only undefined pair is its own best
  pub only_best : (n : ℕ) (m : Machine) (k q : ℕ) (r : Sym) (s : ℕ) → IsMachine n m → holes n m ≤ 1 → HaltsOn m k q r → V m s → IsBest V n m (Some s)
  only_best n m k q r s i one h v =
      (attains_itself V w n m s i v, λ t a. let same = w.one m t s (only_attains V w n m k q r t i one h a) v in omega arith)

  -- m halts on a pair, in order, with the worth x, and b has the bests of its children
  module _ (n u : ℕ) (m : Machine) (k q : ℕ) (r : Sym) (x : ℕ) (b : Entry → Option ℕ) (i : IsMachine n m) (o : InOrder u m) (h : HaltsOn m k q r) (v : V m x)
      (bests : (e : Entry) → IsChildEntry n u m e → IsBest V n (filled m q r e) (b e)) where
    greatest_from_best : (s : ℕ) → IsBest V n m (Some s) → IsGreatestOf n u m x b s
    greatest_from_best s best = record {
      one = elim (covered V w n u m k q r s i o h best.0) [
        | inl own ↦ inl (w.one m s x own v)
        | inr child ↦ (
            let (y, is, le) = best_bounds n (filled m q r child.0) (b child.0) s (bests child.0 child.1) child.2 in
            let back = best.1 y (attains_child V w n m q r child.0 y (pair_undefined m k q r h) (best_attained n (filled m q r child.0) (b child.0) y (bests child.0 child.1) is)) in
            inr (child.0, child.1, is ∙ ap Some (omega arith)))
      ];
      own = best.1 x (attains_itself V w n m x i v);
      each = λ e t c is. best.1 t (attains_child V w n m q r e t (pair_undefined m k q r h) (best_attained n (filled m q r e) (b e) t (bests e c) is));
    }

    best_from_greatest : (s : ℕ) → IsGreatestOf n u m x b s → IsBest V n m (Some s)
    best_from_greatest s g = (attained, bound)
      where
        attained : Attains V n m s
        attained = elim g.one [
          | inl own ↦ attains_itself V w n m s i (subst (V m) (sym own) v)
          | inr child ↦ attains_child V w n m q r child.0 s (pair_undefined m k q r h) (best_attained n (filled m q r child.0) (b child.0) s (bests child.0 child.1) child.2)
        ]

        bound : (t : ℕ) → Attains V n m t → t ≤ s
        bound t a = elim (covered V w n u m k q r t i o h a) [
          | inl own ↦ let same = w.one m t x own v in let le = g.own in omega arith
          | inr child ↦ (
              let (y, is, le) = best_bounds n (filled m q r child.0) (b child.0) t (bests child.0 child.1) child.2 in
              let below = g.each child.0 y child.1 is in
              omega arith)
        ]

    -- the best is the greatest of its own worth and of the children's bests
    pub children_best : (s : ℕ) → IsBest V n m (Some s) ↔ IsGreatestOf n u m x b s
    children_best s = (greatest_from_best s, best_from_greatest s)
