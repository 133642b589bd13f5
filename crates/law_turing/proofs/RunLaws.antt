-- The laws of steps and of whole runs: what they keep, how they end, and machines that run together.
use Rattle.std.proofs.Common.{◌≡◌, ℤ, ◌⊎◌, inl, inr, sym, ◌∙◌, ap, refl, true, false, cond, not, ◌||◌, ◌&&◌, Ordering, Less, Equal, Greater, Option, Some, None, subst, ◌<◌, IfSome, ℕ, zero, suc, ◌+◌, ◌-◌, ◌≤◌, arith, Bool}
use Rattle.std.specs.Ordering.{int_cmp, eq_by_cmp, is_eq}
use Rattle.std.specs.FinSet as set
use Rattle.std.proofs.lemmas.Cmp.{int_cmp_total, tied_itself}
use Rattle.std.proofs.lemmas.Map.Lookups.{exact_signed}
use Rattle.std.proofs.lemmas.Option.{same_Some, none-some}
use Rattle.std.proofs.lemmas.Bool.{cases_lt, cases_order}
use Rattle.machine_text.specs.declared.table.Sym.{Sym}
use Rattle.machine_text.specs.declared.table.Sym.TheVariants.{Zero, One}
use Rattle.law_turing.specs.Run.{cell_of, with_cell, Machine, symbol_read, Config, carried_out, done_by, next, Takes, IsMachine, start, next_from, from, after, Tape, written, Extends}
use Rattle.machine_text.specs.declared.table.Entry.{Entry}
use Rattle.machine_text.specs.Terms.{Packed, IsTable, entry_of}
use Rattle.machine_text.proofs.Tables.{IsMapOf-table}
use Rattle.law_turing.specs.Halting.{HaltsAt, Never, HaltsWith, score_of, score_at, score_where}

-- The cells of a tape after a symbol is written, and cases on whether two places are one.

-- a place is tied with itself
pub tied_here : (x : ℤ) → eq_by_cmp int_cmp x x ≡ true
tied_here x = ap is_eq (tied_itself int_cmp_total x)

-- two places are one, or the order tells them apart
pub same_place : (q x : ℤ) → (q ≡ x) ⊎ ((q ≡ x → ⊥) × (eq_by_cmp int_cmp q x ≡ false))
same_place q x = go (int_cmp q x) refl
  where
    apart : (o : Ordering) → int_cmp q x ≡ o → is_eq o ≡ false → (q ≡ x → ⊥)
    apart o is differ e = absurd (let t : is_eq o ≡ true = ap is_eq (sym is) ∙ ap (λ y. eq_by_cmp int_cmp y x) e ∙ tied_here x in cc)

    go : (o : Ordering) → int_cmp q x ≡ o → (q ≡ x) ⊎ ((q ≡ x → ⊥) × (eq_by_cmp int_cmp q x ≡ false))
    go Less is = inr (apart Less is refl, ap is_eq is)
    go Equal is = inl (exact_signed q x is)
    go Greater is = inr (apart Greater is refl, ap is_eq is)

-- other places are told apart
pub not_tied : (q x : ℤ) → (q ≡ x → ⊥) → eq_by_cmp int_cmp q x ≡ false
not_tied q x other = elim (same_place q x) [ inl e ↦ absurd (other e) | inr p ↦ p.1 ]

-- what holds where two places are one, and where they are not, holds
pub by_place : {P : Type 0} (q x : ℤ) → (q ≡ x → P) → ((q ≡ x → ⊥) → P) → P
by_place q x same other = elim (same_place q x) [ inl e ↦ same e | inr p ↦ other p.0 ]

-- a written symbol is read back
pub cell_here : (ones : set.FinSet int_cmp) (x : ℤ) (s : Sym) → cell_of (with_cell ones x s) x ≡ s
cell_here ones x One =
    ap (λ b. cond b One Zero) (set.contains-insert int_cmp_total ones x x ∙ ap (λ b. b || set.contains ones x) (tied_here x))
cell_here ones x Zero =
    ap (λ b. cond b One Zero) (set.contains-remove int_cmp_total ones x x ∙ ap (λ b. not b && set.contains ones x) (tied_here x))

-- and changes no other cell
pub cell_other : (ones : set.FinSet int_cmp) (x : ℤ) (s : Sym) (q : ℤ) → (q ≡ x → ⊥) → cell_of (with_cell ones x s) q ≡ cell_of ones q
cell_other ones x One q other =
    ap (λ b. cond b One Zero) (set.contains-insert int_cmp_total ones x q ∙ ap (λ b. b || set.contains ones q) (not_tied q x other))
cell_other ones x Zero q other =
    ap (λ b. cond b One Zero) (set.contains-remove int_cmp_total ones x q ∙ ap (λ b. not b && set.contains ones q) (not_tied q x other))

-- A step of a machine is one that `Takes` describes: no later proof sees the set of ones.

-- the entry of a configuration's pair, carried out
pub taken_takes : (m : Machine) (c : Config) (e : Entry) → m c.state (symbol_read c.tape) ≡ Some e → Takes m c e (carried_out c e)
taken_takes m c e is = record {
  is = is;
  state = refl;
  head = refl;
  here = cell_here c.tape.ones c.tape.head e.write;
  others = cell_other c.tape.ones c.tape.head e.write;
}

-- where there is an entry, there is a next configuration
pub next_taken : (m : Machine) (c : Config) (e : Entry) → m c.state (symbol_read c.tape) ≡ Some e → next m c ≡ Some (carried_out c e)
next_taken m c e is = ap (done_by c) is

-- a step takes an entry
pub takes : (m : Machine) (c d : Config) → next m c ≡ Some d → (e : Entry) × Takes m c e d
takes m c d is = go (m c.state (symbol_read c.tape)) refl
  where
    go : (o : Option Entry) → m c.state (symbol_read c.tape) ≡ o → (e : Entry) × Takes m c e d
    go None none = absurd (none-some d (sym (ap (done_by c) none) ∙ is))
    go (Some e) some =
        (e, subst (Takes m c e) (same_Some (carried_out c e) d (sym (next_taken m c e some) ∙ is)) (taken_takes m c e some))

-- where there is no next configuration, the pair has no entry
pub halts_at_pair : (m : Machine) (c : Config) → next m c ≡ None → m c.state (symbol_read c.tape) ≡ None
halts_at_pair m c over = go (m c.state (symbol_read c.tape)) refl
  where
    go : (o : Option Entry) → m c.state (symbol_read c.tape) ≡ o → m c.state (symbol_read c.tape) ≡ None
    go None none = none
    go (Some e) some = absurd (none-some (carried_out c e) (sym over ∙ next_taken m c e some))

-- The map of a packed table is a machine.
pub table_machine : (p : Packed) → IsTable p → IsMachine p.states (entry_of p)
table_machine p table =
    let map = IsMapOf-table p table in
    record {
      some = map.some;
      beyond = map.beyond;
      inside = λ q s e is. subst (λ (o : Option Entry). IfSome o (λ d. d.next.0 < p.states)) is (map.inside q s);
    }

-- The general laws of runs, from any configuration.

-- no step: the configuration itself
pub from_zero : (m : Machine) (c : Config) → from m 0 c ≡ Some c
unfolding from
from_zero m c = refl

-- one step more
pub from_suc : (m : Machine) (k : ℕ) (c : Config) → from m (suc k) c ≡ next_from m (from m k c)
unfolding from
from_suc m k c = refl

-- one step more, where so many are done
pub next_is : (m : Machine) (k : ℕ) (c d : Config) → from m k c ≡ Some d → from m (suc k) c ≡ next m d
next_is m k c d is = from_suc m k c ∙ ap (next_from m) is

-- a configuration, or none
pub some_or_none : (o : Option Config) → ((c : Config) × (o ≡ Some c)) ⊎ (o ≡ None)
some_or_none None = inr refl
some_or_none (Some c) = inl (c, refl)

-- a run goes on from where it stands
pub from_add : (m : Machine) (i k : ℕ) (c d : Config) → from m i c ≡ Some d → from m (i + k) c ≡ from m k d
from_add m i zero c d is = ap (λ n. from m n c) (omega arith) ∙ is ∙ sym (from_zero m d)
from_add m i (suc k) c d is =
    ap (λ n. from m n c) (omega arith) ∙ from_suc m (i + k) c ∙ ap (next_from m) (from_add m i k c d is) ∙ sym (from_suc m k d)

-- what isn't there at a time isn't there later
pub none_later : (m : Machine) (i k : ℕ) (c : Config) → from m i c ≡ None → from m (i + k) c ≡ None
none_later m i zero c none = ap (λ n. from m n c) (omega arith) ∙ none
none_later m i (suc k) c none =
    ap (λ n. from m n c) (omega arith) ∙ from_suc m (i + k) c ∙ ap (next_from m) (none_later m i k c none)

-- after a halting pair there is nothing
pub ended : (m : Machine) (i j : ℕ) (c d : Config) → from m i c ≡ Some d → next m d ≡ None → i < j → from m j c ≡ None
ended m i j c d is over later =
    let after_it : from m (suc i) c ≡ None = next_is m i c d is ∙ over in
    ap (λ n. from m n c) (let e : j ≡ suc i + (j - suc i) = omega arith in e) ∙ none_later m (suc i) (j - suc i) c after_it

-- a run that is there at a time was there at each earlier time
pub before : (m : Machine) (i j : ℕ) (c e : Config) → i ≤ j → from m j c ≡ Some e → (d : Config) × (from m i c ≡ Some d)
before m i j c e earlier is =
    elim (some_or_none (from m i c)) [
      | inl there ↦ there
      | inr none ↦ absurd (none-some e (sym (ap (λ n. from m n c) (let t : j ≡ i + (j - i) = omega arith in t) ∙ none_later m i (j - i) c none) ∙ is))
    ]

-- a run halts in one count at most
pub one_count : (m : Machine) (j k : ℕ) → HaltsAt m j → HaltsAt m k → j ≡ k
one_count m j k s t =
    elim (cases_order s.last t.last) [
      | inl same ↦ omega arith
      | inr (inl less) ↦ absurd (none-some t.at (sym (ended m s.last t.last start s.at s.is s.over less) ∙ t.is))
      | inr (inr more) ↦ absurd (none-some s.at (sym (ended m t.last s.last start t.at t.is t.over more) ∙ s.is))
    ]

-- and at one configuration
pub one_end : (m : Machine) (j k : ℕ) (s : HaltsAt m j) (t : HaltsAt m k) → s.at ≡ t.at
one_end m j k s t =
    let same : s.last ≡ t.last = let e = one_count m j k s t in omega arith in
    same_Some s.at t.at (sym s.is ∙ ap (after m) same ∙ t.is)

-- a run that is there at each time never halts
pub never_where_always : (m : Machine) → ((k : ℕ) → (c : Config) × (after m k ≡ Some c)) → Never m
never_where_always m always k s =
    let later = always (suc s.last) in
    none-some later.0 (sym (next_is m s.last start s.at s.is ∙ s.over) ∙ later.1)

-- a run that never halts is there at each time
pub exists_at : (m : Machine) → Never m → (k : ℕ) → (c : Config) × (after m k ≡ Some c)
exists_at m never zero = (start, from_zero m start)
exists_at m never (suc k) =
    let (c, is) = exists_at m never k in
    elim (some_or_none (next m c)) [
      | inl there ↦ (there.0, next_is m k start c is ∙ there.1)
      | inr over ↦ absurd (never (suc k) (record { last = k; at = c; is = is; over = over; count = refl }))
    ]

-- a run that is there at a time halts later, if at all
pub not_past : (m : Machine) (i k : ℕ) (c : Config) → after m i ≡ Some c → HaltsAt m k → i < k
not_past m i k c is s =
    elim (cases_lt s.last i) [
      | inl less ↦ absurd (none-some c (sym (ended m s.last i start s.at s.is s.over less) ∙ is))
      | inr more ↦ let e = s.count in omega arith
    ]

-- A halting run has one score: that of its number of steps, of which it is no more.
score_before : (m : Machine) (k : ℕ) (halts : HaltsAt m k) → score_at m k ≡ score_of halts.at
score_before m k halts = ap (score_at m) halts.count ∙ ap score_where halts.is

pub halts_with : (m : Machine) (k : ℕ) → HaltsAt m k → HaltsWith m k (score_at m k)
halts_with m k halts = record { halts = halts; score = score_before m k halts }

pub score_is : (m : Machine) (k s : ℕ) → HaltsWith m k s → s ≡ score_at m k
score_is m k s with_score = with_score.score ∙ sym (score_before m k with_score.halts)

-- a cell that is written is at most one more
at_most_one : (b : Bool) (n : ℕ) → cond b n (n + 1) ≤ n + 1
at_most_one true n = omega arith
at_most_one false n = omega arith

at_most_same : (b : Bool) (n : ℕ) → cond b (n - 1) n ≤ n + 1
at_most_same true n = omega arith
at_most_same false n = omega arith

one_more : (ones : set.FinSet int_cmp) (x : ℤ) → set.len (set.insert ones x) ≤ set.len ones + 1
one_more ones x = rw (set.len-insert int_cmp_total ones x) (at_most_one (set.contains ones x) (set.len ones))

with_one_cell : (ones : set.FinSet int_cmp) (x : ℤ) (s : Sym) → set.len (with_cell ones x s) ≤ set.len ones + 1
with_one_cell ones x One = one_more ones x
with_one_cell ones x Zero = rw (set.len-remove int_cmp_total ones x) (at_most_same (set.contains ones x) (set.len ones))

step_within : (c d : Config) (o : Option Entry) (k : ℕ) → done_by c o ≡ Some d → set.len c.tape.ones ≤ k → set.len d.tape.ones ≤ suc k
step_within c d None k is within = absurd (none-some d is)
step_within c d (Some e) k is within =
    let same = same_Some _ _ is in
    subst (λ (x : Config). set.len x.tape.ones ≤ suc k) same (omega (arith, with_one_cell c.tape.ones c.tape.head e.write, within))

-- after k steps there are at most k ones
ones_within : (m : Machine) (k : ℕ) (c : Config) → after m k ≡ Some c → set.len c.tape.ones ≤ k
ones_within m zero c is =
    let same = same_Some _ _ (sym (from_zero m start) ∙ is) in
    subst (λ (x : Config). set.len x.tape.ones ≤ 0) same (rw (set.len-empty int_cmp) (omega arith))
ones_within m (suc k) c is =
    let earlier = before m k (suc k) start c (omega arith) is in
    step_within earlier.0 c (m earlier.0.state (symbol_read earlier.0.tape)) k (sym (next_is m k start earlier.0 earlier.1) ∙ is) (ones_within m k earlier.0 earlier.1)

-- a score is no more than the number of steps
pub score_within : (m : Machine) (k : ℕ) → HaltsAt m k → score_at m k ≤ k
score_within m k halts =
    let ones = ones_within m halts.last halts.at halts.is in
    omega (arith, score_before m k halts, one_more halts.at.tape.ones halts.at.tape.head, ones, halts.count)

-- One law on two machines whose steps go together: their runs go together, and end together.

-- both are there and alike, or neither is there
abbrev pub Alike : (Config → Config → Type 0) → Option Config → Option Config → Type 0
Alike Like None None = Unit {0}
Alike Like None (Some d) = ⊥
Alike Like (Some c) None = ⊥
Alike Like (Some c) (Some d) = Like c d

-- where one is there, so is the other
pub alike_some : (Like : Config → Config → Type 0) (o : Option Config) (c : Config) → Alike Like (Some c) o → (d : Config) × (o ≡ Some d) × Like c d
alike_some Like None c a = absurd a
alike_some Like (Some d) c a = (d, refl, a)

pub alike_none : (Like : Config → Config → Type 0) (o : Option Config) → Alike Like None o → o ≡ None
alike_none Like None a = refl
alike_none Like (Some d) a = absurd a

-- machines m and n, and configurations of each that are alike; a step from two that are alike leads to two
-- that are alike, or both halt
module _ (Like : Config → Config → Type 0) (m n : Machine) (step : (c d : Config) → Like c d → Alike Like (next m c) (next n d)) where
  alike_next : (o p : Option Config) → Alike Like o p → Alike Like (next_from m o) (next_from n p)
  alike_next None None a = tt
  alike_next None (Some d) a = absurd a
  alike_next (Some c) None a = absurd a
  alike_next (Some c) (Some d) a = step c d a

  -- runs from two that are alike stay alike
  pub alike_from : (k : ℕ) (c d : Config) → Like c d → Alike Like (from m k c) (from n k d)
  alike_from zero c d like =
      subst (λ o. Alike Like o (from n 0 d)) (sym (from_zero m c)) (subst (Alike Like (Some c)) (sym (from_zero n d)) like)
  alike_from (suc k) c d like =
      subst (λ o. Alike Like o (from n (suc k) d)) (sym (from_suc m k c)) (subst (Alike Like (next_from m (from m k c))) (sym (from_suc n k d)) (alike_next (from m k c) (from n k d) (alike_from k c d like)))

  -- where the one run is there at a time, the other is there too, and alike
  pub alike_at : (k : ℕ) (c d at : Config) → Like c d → from m k c ≡ Some at → (there : Config) × (from n k d ≡ Some there) × Like at there
  alike_at k c d at like is = alike_some Like (from n k d) at (subst (λ o. Alike Like o (from n k d)) is (alike_from k c d like))

  -- where the one run from the blank tape halts, the other halts in as many steps, at configurations that are alike
  pub simulation_law : Like start start → (k : ℕ) (s : HaltsAt m k) → (t : HaltsAt n k) × Like s.at t.at
  simulation_law begin k s =
      let (there, is, like) = alike_at s.last start start s.at begin s.is in
      let over : next n there ≡ None = alike_none Like (next n there) (subst (λ o. Alike Like o (next n there)) s.over (step s.at there like)) in
      (record { last = s.last; at = there; is = is; over = over; count = s.count }, like)

-- An extension runs as its machine does, until that halts.

-- a step of m is the same step of an extension
pub same_step : (big m : Machine) → Extends big m → (c d : Config) → next m c ≡ Some d → next big c ≡ Some d
same_step big m x c d is =
    let (e, t) = takes m c d is in
    ap (done_by c) (x.is c.state (symbol_read c.tape) e t.is) ∙ sym (ap (done_by c) t.is) ∙ is

-- where m is after k steps, there each extension is
pub same_run : (big m : Machine) → Extends big m → (k : ℕ) (c d : Config) → from m k c ≡ Some d → from big k c ≡ Some d
same_run big m x zero c d is = from_zero big c ∙ sym (from_zero m c) ∙ is
same_run big m x (suc k) c d is =
    let (b, at) = before m k (suc k) c d (omega arith) is in
    next_is big k c b (same_run big m x k c b at) ∙ same_step big m x b d (sym (next_is m k c b at) ∙ is)

-- no extension of a machine that never halts does
pub never_extends : (big m : Machine) → Extends big m → Never m → Never big
never_extends big m x never =
    never_where_always big (λ k. let (c, is) = exists_at m never k in (c, same_run big m x k start c is))

-- What each step keeps holds of a whole run; and what each step back keeps, of its start.

-- where each configuration with P has a next one, with P, a run from one with P goes on for ever and keeps P
pub invariant_law : (m : Machine) (P : Config → Type 0) → ((c : Config) → P c → (d : Config) × (next m c ≡ Some d) × P d) →
    (c : Config) → P c → (k : ℕ) → (d : Config) × (from m k c ≡ Some d) × P d
invariant_law m P step c holds zero = (c, from_zero m c, holds)
invariant_law m P step c holds (suc k) =
    let (d, is, so) = invariant_law m P step c holds k in
    let (e, goes, kept) = step d so in
    (e, next_is m k c d is ∙ goes, kept)

pub never_by_invariant : (m : Machine) (P : Config → Type 0) → ((c : Config) → P c → (d : Config) × (next m c ≡ Some d) × P d) → P start → Never m
never_by_invariant m P step holds =
    never_where_always m (λ k. let (d, is, so) = invariant_law m P step start holds k in (d, is))

-- where halting pairs have P, and a configuration has P if the next one has, the start of a run that ends has P
pub backward_law : (m : Machine) (P : Config → Type 0) → ((c : Config) → next m c ≡ None → P c) → ((c d : Config) → next m c ≡ Some d → P d → P c) →
    (k : ℕ) (c d : Config) → from m k c ≡ Some d → next m d ≡ None → P c
backward_law m P ends back k c d is over = go k d is (ends d over)
  where
    go : (j : ℕ) (d : Config) → from m j c ≡ Some d → P d → P c
    go zero d is holds = subst P (sym (same_Some c d (sym (from_zero m c) ∙ is))) holds
    go (suc j) d is holds =
        let (b, at) = before m j (suc j) c d (omega arith) is in
        go j b at (back b d (sym (next_is m j c b at) ∙ is) holds)
