-- Tables that are made anew, entry by entry, and runs of tables whose states get other names.
use Rattle.std.proofs.Common.{◌≡◌, ℕ, ◌+◌, ◌<◌, ◌≤◌, ◌==◌, ◌&&◌, true, false, cond, Option, Some, None, sym, ◌∙◌, ap, subst, refl, inl, inr, arith, ◌↔◌, suc, Bool, IfSome, IfNone}
use Rattle.std.proofs.lemmas.Bool.{cases_lt}
use Rattle.std.proofs.lemmas.Bool.Decides.{nat_tests}
use Rattle.std.proofs.lemmas.Option.{same_Some}
use Rattle.machine_text.specs.declared.table.Sym.{Sym}
use Rattle.machine_text.specs.declared.table.Sym.TheVariants.{Zero, One}
use Rattle.machine_text.specs.declared.table.Entry.{Entry}
use Rattle.machine_text.specs.Terms.{filled, same_symbol, Packed, IsTable, entry_of}
use Rattle.law_turing.specs.Terms.{Machine, IsMachine, mirrored_entry, Config, start, after, mirrored, HaltsAt, HaltsWith}
use Rattle.cmd_lines.specs.Listed.{named_entry, StaysBelow, ComesFirstTo, IsRenamed, moves_left, facing_right, IsNormalForm}
use Rattle.cmd_lines.specs.inside.{FitsForm, changed, lowered, raised, put_entry}
use Rattle.cmd_lines.specs.declared.normal.Change.{Change}
use Rattle.cmd_lines.specs.declared.normal.Change.TheVariants.{Mirrored, Lowered}
use Rattle.law_turing.proofs.Renaming.{mirror_keeps_score, mirror_kept_score, Carried, Renames, renamed_entry, carried_step, carried_start, renamed_stops_with}
use Rattle.law_turing.proofs.Cycles.{states_within}
use Rattle.law_turing.proofs.RunLaws.{from_zero, not_past, Alike, alike_from, alike_at, table_machine}
use Rattle.run.specs.Terms.{RunState, OnRun, StepsTo}
use Rattle.run.specs.declared.runner.Step.{Step}
use Rattle.run.specs.declared.runner.Step.TheVariants.{Halts}

-- Tables that are made anew, entry by entry.

-- the entries of the states before k are those of the changed machine, and there are no others
pub record AreChanged (change : Change) (m : Machine) (k : ℕ) (new : Machine) : Type 0 where
  pub below : (p : ℕ) (r : Sym) → p < k → new p r ≡ changed change m p r
  pub beyond : (p : ℕ) (r : Sym) → k ≤ p → new p r ≡ None

not_same : (p q : ℕ) → (p ≡ q → ⊥) → (p == q) ≡ false
not_same p q apart = grind (arith, nat_tests)

is_same : (q : ℕ) → (q == q) ≡ true
is_same q = grind (arith, nat_tests)

put_apart : (m : Machine) (q : ℕ) (s : Sym) (o : Option Entry) (p : ℕ) (r : Sym) → (p ≡ q → ⊥) → put_entry m q s o p r ≡ m p r
unfolding filled
put_apart m q s None p r apart = refl
put_apart m q s (Some e) p r apart = ap (λ b. cond (b && same_symbol r s) (Some e) (m p r)) (not_same p q apart)

put_here : (m : Machine) (q : ℕ) (o : Option Entry) (s : Sym) → m q s ≡ None → put_entry m q s o q s ≡ o
unfolding filled
put_here m q None s none = none
put_here m q (Some e) Zero none = ap (λ b. cond (b && true) (Some e) (m q Zero)) (is_same q)
put_here m q (Some e) One none = ap (λ b. cond (b && true) (Some e) (m q One)) (is_same q)

put_zero : (m : Machine) (q : ℕ) (o : Option Entry) → put_entry m q Zero o q One ≡ m q One
unfolding filled
put_zero m q None = refl
put_zero m q (Some e) = ap (λ b. cond (b && false) (Some e) (m q One)) (is_same q)

put_one : (m : Machine) (q : ℕ) (o : Option Entry) → put_entry m q One o q Zero ≡ m q Zero
unfolding filled
put_one m q None = refl
put_one m q (Some e) = ap (λ b. cond (b && false) (Some e) (m q Zero)) (is_same q)

module _ (change : Change) (m : Machine) where
  pub changed_more : (k : ℕ) (new with_zero with_both : Machine) (zero one : Option Entry) → AreChanged change m k new
      → ((p : ℕ) (r : Sym) → with_zero p r ≡ put_entry new k Zero zero p r) → ((p : ℕ) (r : Sym) → with_both p r ≡ put_entry with_zero k One one p r)
      → zero ≡ changed change m k Zero → one ≡ changed change m k One → AreChanged change m (k + 1) with_both
  changed_more k new with_zero with_both zero one so first second is_zero is_one = record { below = below; beyond = beyond }
    where
      other : (p : ℕ) (r : Sym) → (p ≡ k → ⊥) → with_both p r ≡ new p r
      other p r apart = second p r ∙ (put_apart with_zero k One one p r apart ∙ (first p r ∙ put_apart new k Zero zero p r apart))

      here : (r : Sym) → with_both k r ≡ changed change m k r
      here Zero = second k Zero ∙ (put_one with_zero k one ∙ (first k Zero ∙ (put_here new k zero Zero (so.beyond k Zero (omega arith)) ∙ is_zero)))
      here One =
          let free : with_zero k One ≡ None = first k One ∙ (put_zero new k zero ∙ so.beyond k One (omega arith)) in
          second k One ∙ (put_here with_zero k one One free ∙ is_one)

      below : (p : ℕ) (r : Sym) → p < k + 1 → with_both p r ≡ changed change m p r
      below p r less = elim (cases_lt p k) [
        | inl before ↦ other p r (λ e. omega arith) ∙ so.below p r before
        | inr past ↦ let is : k ≡ p = omega arith in subst (λ q. with_both q r ≡ changed change m q r) is (here r)
      ]

      beyond : (p : ℕ) (r : Sym) → k + 1 ≤ p → with_both p r ≡ None
      beyond p r past = other p r (λ e. omega arith) ∙ so.beyond p r (omega arith)

raised_beyond : (low state q : ℕ) → low ≤ state → state < q → raised low state q ≡ q
raised_beyond low state q order past = grind (arith, nat_tests)

-- no state beyond those of a machine has an entry in the changed one
changed_beyond : (change : Change) (n : ℕ) (m : Machine) → IsMachine n m → FitsForm change n → (p : ℕ) (r : Sym) → n ≤ p → changed change m p r ≡ None
changed_beyond Mirrored n m machine fits p r past = ap mirrored_entry (machine.beyond p r past)
changed_beyond (Lowered low state) n m machine fits p r past =
    let order = fits.0 in
    let less = fits.1 in
    let is : raised low state p ≡ p = raised_beyond low state p order (omega arith) in
    ap (λ q. named_entry (lowered low state) (m q r)) is ∙ ap (named_entry (lowered low state)) (machine.beyond p r past)

pub changed_all : (change : Change) (n k : ℕ) (m new : Machine) → IsMachine n m → FitsForm change n → k ≡ n → AreChanged change m k new → (p : ℕ) (r : Sym) → new p r ≡ changed change m p r
changed_all change n k m new machine fits whole so p r = elim (cases_lt p k) [
  | inl less ↦ so.below p r less
  | inr past ↦ so.beyond p r past ∙ sym (changed_beyond change n m machine fits p r (omega arith))
]

-- Runs of machines whose states get other names.

-- the names of a change
pub old_of_lowered : (low state q : ℕ) → low ≤ state → raised low state (lowered low state q) ≡ q
old_of_lowered low state q order = grind (arith, nat_tests)

pub lowered_of_old : (low state q : ℕ) → low ≤ state → lowered low state (raised low state q) ≡ q
lowered_of_old low state q order = grind (arith, nat_tests)

lowered_at : (low state : ℕ) → lowered low state state ≡ low
lowered_at low state = grind (arith, nat_tests)

lowered_before : (low state q : ℕ) → low ≤ state → q < low → lowered low state q ≡ q
lowered_before low state q order below = grind (arith, nat_tests)

-- of two states that stay beyond it, each was beyond `low`, and they keep their order
lowered_high : (low state q : ℕ) → low ≤ state → low + 1 ≤ lowered low state q → low ≤ q
lowered_high low state q order high = grind (arith, nat_tests)

lowered_order : (low state p q : ℕ) → low ≤ state → p < q → low + 1 ≤ lowered low state p → low + 1 ≤ lowered low state q → lowered low state p < lowered low state q
lowered_order low state p q order less high_p high_q = grind (arith, nat_tests)

named_renamed : (name : ℕ → ℕ) (o : Option Entry) → named_entry name o ≡ renamed_entry name (λ d. d) o
named_renamed name None = refl
named_renamed name (Some e) = refl

renames : (name : ℕ → ℕ) (m new : Machine) → ((q : ℕ) (s : Sym) → new (name q) s ≡ named_entry name (m q s)) → Renames name (λ x. x) (λ d. d) m new
renames name m new entries = record {
  apart = λ x y e. e;
  moves = λ x d. refl;
  entries = λ q s. entries q s ∙ named_renamed name (m q s);
}

-- an entry that gets other names, and its old ones again
named_back : (name old : ℕ → ℕ) → ((q : ℕ) → old (name q) ≡ q) → (o : Option Entry) → o ≡ named_entry old (named_entry name o)
named_back name old back None = refl
named_back name old back (Some e) = ap (λ q. Some (record { write = e.write; dir = e.dir; next = record { 0 = q } })) (sym (back e.next.0))

named_both : (first second : ℕ → ℕ) (o : Option Entry) → named_entry second (named_entry first o) ≡ named_entry (λ q. second (first q)) o
named_both first second None = refl
named_both first second (Some e) = refl

pub named_same : (o : Option Entry) → o ≡ named_entry (λ q. q) o
named_same None = refl
named_same (Some e) = refl

-- where the second of two that are alike is there, so is the first
pub alike_back : (Like : Config → Config → Type 0) (o : Option Config) (d : Config) → Alike Like o (Some d) → (c : Config) × (o ≡ Some c) × Like c d
alike_back Like None d a = absurd a
alike_back Like (Some c) d a = (c, refl, a)

module _ (name : ℕ → ℕ) (m new : Machine) (entries : (q : ℕ) (s : Sym) → new (name q) s ≡ named_entry name (m q s)) (first : name 0 ≡ 0) where
  pub alike_times : (i : ℕ) → Alike (Carried name (λ x. x)) (after m i) (after new i)
  alike_times i =
      alike_from (Carried name (λ x. x)) m new (carried_step name (λ x. x) (λ d. d) m new (renames name m new entries)) i start start
      (carried_start name (λ x. x) first refl).carried

  pub stays_below : (k low : ℕ) → ((q : ℕ) → q < low → name q < low) → StaysBelow m k low → StaysBelow new k low
  stays_below k low kept stays i d before is =
      let (c, there, like) = alike_back (Carried name (λ x. x)) (after m i) d (subst (Alike (Carried name (λ x. x)) (after m i)) is (alike_times i)) in
      subst (λ q. q < low) (sym like.state) (kept c.state (stays i c before there))

  comes_to : (steps low q : ℕ) → ((p : ℕ) → p < low → name p < low) → ComesFirstTo m steps low q → ComesFirstTo new steps low (name q)
  comes_to steps low q kept c =
      let (d, there, like) = alike_at (Carried name (λ x. x)) m new (carried_step name (λ x. x) (λ d. d) m new (renames name m new entries)) c.time start start c.at
      (carried_start name (λ x. x) first refl).carried c.is
      in
      record {
        time = c.time;
        within = c.within;
        at = d;
        is = there;
        state = like.state ∙ ap name c.state;
        before = stays_below c.time low kept c.before;
      }

-- a machine in which the states below `named` have the names that they are to have, and are come to in their order
pub record IsNamed (named steps : ℕ) (m new : Machine) : Type 0 where
  pub renamed : IsRenamed named m new
  pub each : (q : ℕ) → q < named → ComesFirstTo new steps q q

pub named_first : (steps : ℕ) (m new : Machine) → ((q : ℕ) (s : Sym) → new q s ≡ m q s) → IsNamed 1 steps m new
named_first steps m new same = record {
  renamed = record {
    name = λ q. q;
    old = λ q. q;
    old_of_name = λ q. refl;
    name_of_old = λ q. refl;
    first = refl;
    entries = λ q s. same q s ∙ named_same (m q s);
    others = λ p q less high_p high_q. less;
  };
  each = λ q below. record {
    time = 0;
    within = omega arith;
    at = start;
    is = from_zero new start;
    state = omega arith;
    before = λ i c none is. absurd (omega arith);
  };
}

pub named_more : (named steps state : ℕ) (m cur new : Machine) → 0 < named → named ≤ state → IsNamed named steps m cur → ComesFirstTo cur steps named state
    → ((q : ℕ) (s : Sym) → new q s ≡ named_entry (lowered named state) (cur (raised named state q) s)) → IsNamed (named + 1) steps m new
named_more named steps state m cur new some order so comes made =
    let name = lowered named state in
    let old = so.renamed in
    let entries : (q : ℕ) (s : Sym) → new (name q) s ≡ named_entry name (cur q s) =
    λ q s. made (name q) s ∙ ap (λ p. named_entry name (cur p s)) (old_of_lowered named state q order)
    in
    let first : name 0 ≡ 0 = lowered_before named state 0 order some in
    let same : (p : ℕ) → p < named → name p ≡ p = λ p below. lowered_before named state p order below in
    record {
      renamed = record {
        name = λ q. name (old.name q);
        old = λ q. old.old (raised named state q);
        old_of_name = λ q. ap old.old (old_of_lowered named state (old.name q) order) ∙ old.old_of_name q;
        name_of_old = λ q. ap name (old.name_of_old (raised named state q)) ∙ lowered_of_old named state q order;
        first = ap name old.first ∙ first;
        entries = λ q s. entries (old.name q) s ∙ (ap (named_entry name) (old.entries q s) ∙ named_both old.name name (m q s));
        others = λ p q less high_p high_q.
            lowered_order named state (old.name p) (old.name q) order
            (old.others p q less (lowered_high named state (old.name p) order high_p) (lowered_high named state (old.name q) order high_q)) high_p high_q;
      };
      each = λ q below. elim (cases_lt q named) [
        | inl less ↦
            subst (ComesFirstTo new steps q) (same q less)
            (comes_to name cur new entries first steps q q (λ p lower. subst (λ x. x < q) (sym (same p (omega arith))) lower) (so.each q less))
        | inr more ↦
            let is : named ≡ q = omega arith in
            subst (λ x. ComesFirstTo new steps x x) is
            (subst (ComesFirstTo new steps named) (lowered_at named state)
            (comes_to name cur new entries first steps named state (λ p lower. subst (λ x. x < named) (sym (same p lower)) lower) comes))
      ];
    }

-- no state is left to be named: the run comes to no other, or there is none
pub named_whole : (named steps : ℕ) (t new : Packed) → new.states ≡ t.states → IsNamed named steps (facing_right (entry_of t)) (entry_of new) → StaysBelow (entry_of new) (suc steps) named → IsNormalForm steps t new
named_whole named steps t new states so stays = record {
  named = named;
  states = states;
  renamed = so.renamed;
  in_order = record { each = so.each; only = stays };
}

pub named_all : (steps : ℕ) (t new : Packed) → IsTable new → new.states ≡ t.states → IsNamed new.states steps (facing_right (entry_of t)) (entry_of new) → IsNormalForm steps t new
named_all steps t new is_table states so =
    named_whole new.states steps t new states so
    (λ i c before is. states_within new.states (entry_of new) (table_machine new is_table) i start c (is_table.some) is)

-- a machine and one with other names halt alike
renamed_alike : (named : ℕ) (m new : Machine) → IsRenamed named m new → (k s : ℕ) → HaltsWith m k s ↔ HaltsWith new k s
renamed_alike named m new r k s =
    let back : (q : ℕ) (s : Sym) → m (r.old q) s ≡ named_entry r.old (new q s) =
    λ q s. named_back r.name r.old r.old_of_name (m (r.old q) s) ∙ ap (named_entry r.old) (sym (r.entries (r.old q) s) ∙ ap (λ p. new p s) (r.name_of_old q))
    in
    let first : r.old 0 ≡ 0 = ap r.old (sym r.first) ∙ r.old_of_name 0 in (
      renamed_stops_with r.name (λ x. x) (λ d. d) m new (renames r.name m new r.entries) r.first refl k s,
      renamed_stops_with r.old (λ x. x) (λ d. d) new m (renames r.old new m back) first refl k s,
    )

turned_alike : (m : Machine) (left : Bool) (k s : ℕ) → HaltsWith m k s ↔ HaltsWith (cond left (mirrored m) m) k s
turned_alike m true k s = (mirror_keeps_score m k s, mirror_kept_score m k s)
turned_alike m false k s = (λ h. h, λ h. h)

pub normal_alike : (steps : ℕ) (t new : Packed) → IsNormalForm steps t new → (k s : ℕ) → HaltsWith (entry_of t) k s ↔ HaltsWith (entry_of new) k s
normal_alike steps t new form k s =
    let m = entry_of t in
    let turn = turned_alike m (moves_left (m 0 Zero)) k s in
    let names = renamed_alike form.named (facing_right m) (entry_of new) form.renamed k s in
    (λ h. names.0 (turn.0 h), λ h. turn.1 (names.1 h))

-- what stands behind an option
pub came_some : {X : Type 0} (P : X → Type 0) (o : Option X) (x : X) → o ≡ Some x → IfSome o P → P x
came_some P o x is holds = subst (λ p. IfSome p P) is holds

pub came_none : {X : Type 0} (A : Type 0) (o : Option X) → o ≡ None → IfNone o A → A
came_none A o is holds = subst (λ p. IfNone p A) is holds

-- a run that is in states below `low`, and halts
pub stays_halted : (m : Machine) (r : RunState) (step : Step) (new : RunState) (count steps low : ℕ) → OnRun r → entry_of r.table ≡ m → StepsTo r step new → step ≡ Halts count → r.config.state < low → StaysBelow m r.steps low
    → StaysBelow m (suc steps) low
stays_halted m r step new count steps low on_run is_machine steps_to halts here before i d less is =
    let (unchanged, end) = subst (λ (x : Step). StepsTo r x new) halts steps_to in
    let here_at : after m r.steps ≡ Some r.config = subst (λ (x : Machine). after x r.steps ≡ Some r.config) is_machine on_run.at in
    let ends : HaltsAt m count = subst (λ (x : Machine). HaltsAt x count) is_machine end.halts in
    let last : count ≡ r.steps + 1 = end.last ∙ ap (λ (x : RunState). x.steps + 1) unchanged in
    let past : i < count = not_past m i count d is ends in
    elim (cases_lt i r.steps) [
      | inl early ↦ before i d early is
      | inr late ↦
          let same : r.steps ≡ i = omega arith in
          let there : after m r.steps ≡ Some d = subst (λ x. after m x ≡ Some d) (sym same) is in
          subst (λ (x : Config). x.state < low) (same_Some r.config d (sym here_at ∙ there)) here
    ]
