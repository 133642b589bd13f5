-- Machines whose states are renamed, or whose tape is mirrored or moved, run alike.
use Rattle.std.proofs.Common.{◌≡◌, ℕ, Bool, true, false, cond, ℤ, pos, Option, Some, None, sym, ◌∙◌, ap, subst, refl, ◌<◌, ◌≤◌, ◌+ℤ◌, ◌-ℤ◌, arith, ◌||◌, inl, inr, List, [], ◌∷◌, map}
use Rattle.std.specs.Ordering.{int_cmp, eq_by_cmp}
use Rattle.std.specs.FinSet as set
use Rattle.std.proofs.lemmas.Cmp.{int_cmp_total}
use Rattle.std.proofs.lemmas.Option.{same_Some, none-some}
use Rattle.std.proofs.lemmas.Bool.Decides.{nat_tests}
use Rattle.std.proofs.lemmas.Int.{ints}
use Rattle.std.specs.List.{list_any}
use Rattle.machine_text.specs.declared.table.Sym.{Sym}
use Rattle.machine_text.specs.declared.table.Sym.TheVariants.{Zero, One}
use Rattle.machine_text.specs.declared.table.Dir.{Dir}
use Rattle.machine_text.specs.declared.table.Entry.{Entry}
use Rattle.law_turing.specs.Run.{Machine, Tape, symbol_read, with_cell, moved_head, Config, start, cell, carried_out, done_by, next, Takes, IsMachine, from, exchanged, exchanged_entry, with_exchanged, opposite, mirrored_entry, mirrored, IsShifted}
use Rattle.law_turing.specs.Halting.{HaltsAt, score_of, HaltsWith}
use Rattle.law_turing.proofs.RunLaws.{by_place, taken_takes, Alike, simulation_law, alike_at, same_place, not_tied, tied_here}
use Rattle.machine_text.specs.declared.table.Dir.TheVariants.{L, R}

-- A machine whose states are renamed, and whose tape is carried along by a map of places, runs alike. The
-- exchange of states, the mirror image and the move of a tape are three uses.

-- d is c with its state renamed by g, and its head and cells carried along by f
pub record Carried (g : ℕ → ℕ) (f : ℤ → ℤ) (c d : Config) : Type 0 where
  pub state : d.state ≡ g c.state
  pub head : d.tape.head ≡ f c.tape.head
  pub cells : (x : ℤ) → cell d (f x) ≡ cell c x

-- and there are as many ones
pub record CarriedAll (g : ℕ → ℕ) (f : ℤ → ℤ) (c d : Config) : Type 0 where
  pub carried : Carried g f c d
  pub size : set.len d.tape.ones ≡ set.len c.tape.ones

-- an entry with its target renamed by g, and its direction by turn
abbrev pub renamed_entry : (ℕ → ℕ) → (Dir → Dir) → Option Entry → Option Entry
renamed_entry g turn None = None
renamed_entry g turn (Some e) = Some (record { write = e.write; dir = turn e.dir; next = record { 0 = g e.next.0 } })

-- what a renaming has to be: places stay apart, and moves are carried along
pub record Renames (g : ℕ → ℕ) (f : ℤ → ℤ) (turn : Dir → Dir) (m n : Machine) : Type 0 where
  pub apart : (x y : ℤ) → f x ≡ f y → x ≡ y
  pub moves : (x : ℤ) (d : Dir) → moved_head (f x) (turn d) ≡ f (moved_head x d)
  pub entries : (q : ℕ) (s : Sym) → n (g q) s ≡ renamed_entry g turn (m q s)

-- the two read the same symbol
pub same_symbol : (g : ℕ → ℕ) (f : ℤ → ℤ) (c d : Config) → Carried g f c d → symbol_read d.tape ≡ symbol_read c.tape
same_symbol g f c d r = ap (cell d) r.head ∙ r.cells c.tape.head

-- a cell tells whether its place is a one
same_mark : (a b : Bool) → cond a One Zero ≡ cond b One Zero → a ≡ b
same_mark true true e = refl
same_mark true false e = absurd (cc)
same_mark false true e = absurd (cc)
same_mark false false e = refl

-- the same symbol written on both leaves as many ones on both
same_size : (s t : Tape) (w : Sym) → symbol_read s ≡ symbol_read t → set.len s.ones ≡ set.len t.ones →
    set.len (with_cell s.ones s.head w) ≡ set.len (with_cell t.ones t.head w)
same_size s t One read size =
    let mark : set.contains s.ones s.head ≡ set.contains t.ones t.head = same_mark (set.contains s.ones s.head) (set.contains t.ones t.head) read in
    cc (set.len-insert int_cmp_total s.ones s.head, set.len-insert int_cmp_total t.ones t.head)
same_size s t Zero read size =
    let mark : set.contains s.ones s.head ≡ set.contains t.ones t.head = same_mark (set.contains s.ones s.head) (set.contains t.ones t.head) read in
    cc (set.len-remove int_cmp_total s.ones s.head, set.len-remove int_cmp_total t.ones t.head)

module _ (g : ℕ → ℕ) (f : ℤ → ℤ) (turn : Dir → Dir) (m n : Machine) (r : Renames g f turn m n) where
  -- carrying out an entry on the one, and its renamed entry on the other
  carried_on : (c d c' d' : Config) (e e' : Entry) → Carried g f c d → Takes m c e c' → Takes n d e' d' →
      e'.write ≡ e.write → e'.dir ≡ turn e.dir → e'.next.0 ≡ g e.next.0 → Carried g f c' d'
  carried_on c d c' d' e e' like s t write dir target = record {
    state = t.state ∙ target ∙ ap g (sym s.state);
    head = t.head ∙ ap (moved_head d.tape.head) dir ∙ ap (λ x. moved_head x (turn e.dir)) like.head ∙ r.moves c.tape.head e.dir ∙ ap f (sym s.head);
    cells = λ x. by_place x c.tape.head
        (λ here. ap (λ y. cell d' (f y)) here ∙ ap (cell d') (sym like.head) ∙ t.here ∙ write ∙ sym s.here ∙ ap (cell c') (sym here))
        (λ other. t.others (f x) (λ same. other (r.apart x c.tape.head (same ∙ like.head))) ∙ like.cells x ∙ sym (s.others x other));
  }

  renamed_pair : (c d : Config) → Carried g f c d → n d.state (symbol_read d.tape) ≡ renamed_entry g turn (m c.state (symbol_read c.tape))
  renamed_pair c d like =
      ap (λ q. n q (symbol_read d.tape)) like.state ∙ ap (n (g c.state)) (same_symbol g f c d like) ∙ r.entries c.state (symbol_read c.tape)

  both_carried : (c d : Config) → Carried g f c d → (e e' : Entry) → m c.state (symbol_read c.tape) ≡ Some e → renamed_entry g turn (Some e) ≡ Some e' →
      Carried g f (carried_out c e) (carried_out d e')
  both_carried c d like e e' is renamed =
      let same = same_Some _ _ renamed in
      carried_on c d (carried_out c e) (carried_out d e') e e' like (taken_takes m c e is)
      (taken_takes n d e' (renamed_pair c d like ∙ ap (renamed_entry g turn) is ∙ renamed))
      (ap (λ (x : Entry). x.write) (sym same)) (ap (λ (x : Entry). x.dir) (sym same)) (ap (λ (x : Entry). x.next.0) (sym same))

  -- a step of the one is carried along to a step of the other
  pub carried_step : (c d : Config) → Carried g f c d → Alike (Carried g f) (next m c) (next n d)
  carried_step c d like =
      subst (λ p. Alike (Carried g f) (next m c) (done_by d p)) (sym (renamed_pair c d like)) (go (m c.state (symbol_read c.tape)) refl)
    where
      go : (o : Option Entry) → m c.state (symbol_read c.tape) ≡ o → Alike (Carried g f) (done_by c o) (done_by d (renamed_entry g turn o))
      go None is = tt
      go (Some e) is = both_carried c d like e (record { write = e.write; dir = turn e.dir; next = record { 0 = g e.next.0 } }) is refl

  -- and keeps the number of ones
  pub carried_all_step : (c d : Config) → CarriedAll g f c d → Alike (CarriedAll g f) (next m c) (next n d)
  carried_all_step c d like =
      subst (λ p. Alike (CarriedAll g f) (next m c) (done_by d p)) (sym (renamed_pair c d like.carried)) (go (m c.state (symbol_read c.tape)) refl)
    where
      go : (o : Option Entry) → m c.state (symbol_read c.tape) ≡ o → Alike (CarriedAll g f) (done_by c o) (done_by d (renamed_entry g turn o))
      go None is = tt
      go (Some e) is = record {
        carried = both_carried c d like.carried e (record { write = e.write; dir = turn e.dir; next = record { 0 = g e.next.0 } }) is refl;
        size = same_size d.tape c.tape e.write (same_symbol g f c d like.carried) like.size;
      }

-- two configurations that are carried along to one another have the same score
pub same_score : (g : ℕ → ℕ) (f : ℤ → ℤ) (c d : Config) → CarriedAll g f c d → score_of d ≡ score_of c
same_score g f c d like = same_size d.tape c.tape One (same_symbol g f c d like.carried) like.size

-- the blank tape is carried along to itself, where the start is kept
pub carried_start : (g : ℕ → ℕ) (f : ℤ → ℤ) → g 0 ≡ 0 → f (pos 0) ≡ pos 0 → CarriedAll g f start start
carried_start g f state head = record {
  carried = record {
    state = sym state;
    head = sym head;
    cells = λ x. ap (λ b. cond b One Zero) (set.contains-empty int_cmp (f x) ∙ sym (set.contains-empty int_cmp x));
  };
  size = refl;
}

-- a renamed machine halts in as many steps, with the same score
pub renamed_stops : (g : ℕ → ℕ) (f : ℤ → ℤ) (turn : Dir → Dir) (m n : Machine) → Renames g f turn m n → g 0 ≡ 0 → f (pos 0) ≡ pos 0 →
    (k : ℕ) (s : HaltsAt m k) → (t : HaltsAt n k) × CarriedAll g f s.at t.at
renamed_stops g f turn m n r state head =
    simulation_law (CarriedAll g f) m n (carried_all_step g f turn m n r) (carried_start g f state head)

pub renamed_stops_with : (g : ℕ → ℕ) (f : ℤ → ℤ) (turn : Dir → Dir) (m n : Machine) → Renames g f turn m n → g 0 ≡ 0 → f (pos 0) ≡ pos 0 →
    (k s : ℕ) → HaltsWith m k s → HaltsWith n k s
renamed_stops_with g f turn m n r state head k s w =
    let (t, like) = renamed_stops g f turn m n r state head k w.halts in
    record { halts = t; score = w.score ∙ sym (same_score g f w.halts.at t.at like) }

-- Exchanging two states other than the first, mirroring, and moving the tape are renamings.

-- an exchange undoes itself
pub exchanged_twice : (a b q : ℕ) → exchanged a b (exchanged a b q) ≡ q
exchanged_twice a b q = grind (arith, nat_tests)

-- and keeps every other state
pub exchanged_other : (a b q : ℕ) → (q ≡ a → ⊥) → (q ≡ b → ⊥) → exchanged a b q ≡ q
exchanged_other a b q not_a not_b = grind (arith, nat_tests)

abbrev same_dir : Dir → Dir
same_dir d = d

abbrev pub same_state : ℕ → ℕ
same_state q = q

abbrev same_head : ℤ → ℤ
same_head x = x

-- the entry of the exchanged machine is the renamed one
exchanged_is : (a b : ℕ) (o : Option Entry) → exchanged_entry a b o ≡ renamed_entry (exchanged a b) same_dir o
exchanged_is a b None = refl
exchanged_is a b (Some e) = refl

exchange_renames : (a b : ℕ) (m : Machine) → Renames (exchanged a b) same_head same_dir m (with_exchanged a b m)
exchange_renames a b m = record {
  apart = λ x y e. e;
  moves = λ x d. refl;
  entries = λ q s. ap (λ p. exchanged_entry a b (m p s)) (exchanged_twice a b q) ∙ exchanged_is a b (m q s);
}

pub exchange_keeps : (a b : ℕ) (m : Machine) (k : ℕ) → 0 < a → 0 < b → HaltsAt m k → HaltsAt (with_exchanged a b m) k
exchange_keeps a b m k pa pb s =
    (renamed_stops (exchanged a b) same_head same_dir m (with_exchanged a b m) (exchange_renames a b m) (exchanged_other a b 0 (λ e. omega arith) (λ e. omega arith)) refl k s).0

pub exchange_keeps_score : (a b : ℕ) (m : Machine) (k s : ℕ) → 0 < a → 0 < b → HaltsWith m k s → HaltsWith (with_exchanged a b m) k s
exchange_keeps_score a b m k s pa pb =
    renamed_stops_with (exchanged a b) same_head same_dir m (with_exchanged a b m) (exchange_renames a b m) (exchanged_other a b 0 (λ e. omega arith) (λ e. omega arith)) refl k s

-- the entry of the machine is the renamed one of the exchanged machine
exchanged_back : (a b : ℕ) (o : Option Entry) → o ≡ renamed_entry (exchanged a b) same_dir (exchanged_entry a b o)
exchanged_back a b None = refl
exchanged_back a b (Some e) = ap (λ p. Some (record { write = e.write; dir = e.dir; next = record { 0 = p } })) (sym (exchanged_twice a b e.next.0))

exchange_renames_back : (a b : ℕ) (m : Machine) → Renames (exchanged a b) same_head same_dir (with_exchanged a b m) m
exchange_renames_back a b m = record {
  apart = λ x y e. e;
  moves = λ x d. refl;
  entries = λ q s. exchanged_back a b (m (exchanged a b q) s);
}

pub exchange_kept : (a b : ℕ) (m : Machine) (k : ℕ) → 0 < a → 0 < b → HaltsAt (with_exchanged a b m) k → HaltsAt m k
exchange_kept a b m k pa pb s =
    (renamed_stops (exchanged a b) same_head same_dir (with_exchanged a b m) m (exchange_renames_back a b m) (exchanged_other a b 0 (λ e. omega arith) (λ e. omega arith)) refl k s).0

pub exchange_kept_score : (a b : ℕ) (m : Machine) (k s : ℕ) → 0 < a → 0 < b → HaltsWith (with_exchanged a b m) k s → HaltsWith m k s
exchange_kept_score a b m k s pa pb =
    renamed_stops_with (exchanged a b) same_head same_dir (with_exchanged a b m) m (exchange_renames_back a b m) (exchanged_other a b 0 (λ e. omega arith) (λ e. omega arith)) refl k s

-- an exchange of two of the states keeps their number
pub exchanged_below : (n a b q : ℕ) → a < n → b < n → q < n → exchanged a b q < n
exchanged_below n a b q below_a below_b below = grind (arith, nat_tests)

pub exchanged_beyond : (n a b q : ℕ) → a < n → b < n → n ≤ q → n ≤ exchanged a b q
exchanged_beyond n a b q below_a below_b past = grind (arith, nat_tests)

exchanged_target : (a b n : ℕ) (o : Option Entry) (e : Entry) → a < n → b < n → ((f : Entry) → o ≡ Some f → f.next.0 < n) → exchanged_entry a b o ≡ Some e → e.next.0 < n
exchanged_target a b n None e below_a below_b inside is = absurd (none-some e is)
exchanged_target a b n (Some f) e below_a below_b inside is =
    subst (λ (x : Entry). x.next.0 < n) (same_Some _ e is) (exchanged_below n a b f.next.0 below_a below_b (inside f refl))

pub exchanged_machine : (n a b : ℕ) (m : Machine) → a < n → b < n → IsMachine n m → IsMachine n (with_exchanged a b m)
exchanged_machine n a b m below_a below_b machine = record {
  some = machine.some;
  beyond = λ q s past. ap (exchanged_entry a b) (machine.beyond (exchanged a b q) s (exchanged_beyond n a b q below_a below_b past));
  inside = λ q s e is. exchanged_target a b n (m (exchanged a b q) s) e below_a below_b (machine.inside (exchanged a b q) s) is;
}

-- the place on the other side of the start
abbrev pub back : ℤ → ℤ
back x = pos 0 -ℤ x

-- to turn round twice is to keep the direction
pub opposite_twice : (d : Dir) → opposite (opposite d) ≡ d
opposite_twice L = refl
opposite_twice R = refl

mirrored_is : (o : Option Entry) → mirrored_entry o ≡ renamed_entry same_state opposite o
mirrored_is None = refl
mirrored_is (Some e) = refl

back_moved : (x : ℤ) (d : Dir) → moved_head (back x) (opposite d) ≡ back (moved_head x d)
back_moved x L = omega (arith, ints)
back_moved x R = omega (arith, ints)

pub back_apart : (x y : ℤ) → back x ≡ back y → x ≡ y
back_apart x y e = omega (arith, ints)

pub mirror_renames : (m : Machine) → Renames same_state back opposite m (mirrored m)
mirror_renames m = record { apart = back_apart; moves = back_moved; entries = λ q s. mirrored_is (m q s) }

pub mirror_keeps : (m : Machine) (k : ℕ) → HaltsAt m k → HaltsAt (mirrored m) k
mirror_keeps m k s = (renamed_stops same_state back opposite m (mirrored m) (mirror_renames m) refl refl k s).0

pub mirror_keeps_score : (m : Machine) (k s : ℕ) → HaltsWith m k s → HaltsWith (mirrored m) k s
mirror_keeps_score m k s = renamed_stops_with same_state back opposite m (mirrored m) (mirror_renames m) refl refl k s

mirrored_back : (o : Option Entry) → o ≡ renamed_entry same_state opposite (mirrored_entry o)
mirrored_back None = refl
mirrored_back (Some e) = ap (λ d. Some (record { write = e.write; dir = d; next = e.next })) (sym (opposite_twice e.dir))

pub mirrored_twice : (o : Option Entry) → o ≡ mirrored_entry (mirrored_entry o)
mirrored_twice None = refl
mirrored_twice (Some e) = ap (λ d. Some (record { write = e.write; dir = d; next = e.next })) (sym (opposite_twice e.dir))

-- the entry of the machine is the mirror image of its mirror image's
pub unmirrored : (m : Machine) (q : ℕ) (s : Sym) (o : Option Entry) → mirrored m q s ≡ o → m q s ≡ mirrored_entry o
unmirrored m q s o is = mirrored_twice (m q s) ∙ ap mirrored_entry is

-- a mirror image has as many states
pub mirrored_machine : (n : ℕ) (m : Machine) → IsMachine n m → IsMachine n (mirrored m)
mirrored_machine n m machine = record {
  some = machine.some;
  beyond = λ q s past. ap mirrored_entry (machine.beyond q s past);
  inside = λ q s e is. machine.inside q s (record { write = e.write; dir = opposite e.dir; next = e.next }) (unmirrored m q s (Some e) is);
}

mirror_renames_back : (m : Machine) → Renames same_state back opposite (mirrored m) m
mirror_renames_back m = record { apart = back_apart; moves = back_moved; entries = λ q s. mirrored_back (m q s) }

pub mirror_kept : (m : Machine) (k : ℕ) → HaltsAt (mirrored m) k → HaltsAt m k
mirror_kept m k s = (renamed_stops same_state back opposite (mirrored m) m (mirror_renames_back m) refl refl k s).0

pub mirror_kept_score : (m : Machine) (k s : ℕ) → HaltsWith (mirrored m) k s → HaltsWith m k s
mirror_kept_score m k s = renamed_stops_with same_state back opposite (mirrored m) m (mirror_renames_back m) refl refl k s

unturned : (o : Option Entry) → o ≡ renamed_entry same_state same_dir o
unturned None = refl
unturned (Some e) = refl

pub shift_moved : (t x : ℤ) (d : Dir) → moved_head (x +ℤ t) d ≡ moved_head x d +ℤ t
shift_moved t x L = omega (arith, ints)
shift_moved t x R = omega (arith, ints)

pub shift_apart : (t x y : ℤ) → x +ℤ t ≡ y +ℤ t → x ≡ y
shift_apart t x y e = omega (arith, ints)

shift_renames : (m : Machine) (t : ℤ) → Renames same_state (λ x. x +ℤ t) same_dir m m
shift_renames m t = record { apart = shift_apart t; moves = shift_moved t; entries = λ q s. unturned (m q s) }

-- a run from a configuration whose tape is moved is the run moved
pub shifted_run : (m : Machine) (t : ℤ) (k : ℕ) (c d at : Config) → IsShifted t c d → from m k c ≡ Some at →
    (there : Config) × (from m k d ≡ Some there) × IsShifted t at there
shifted_run m t k c d at s is =
    let (there, runs, like) = alike_at (Carried same_state (λ x. x +ℤ t)) m m (carried_step same_state (λ x. x +ℤ t) same_dir m m (shift_renames m t)) k c d at (record { state = s.state; head = s.head; cells = s.cells }) is in
    (there, runs, record { state = like.state; head = like.head; cells = like.cells })

-- Each configuration has a mirror image: its tape is turned round at the place 0.

-- two places are one where the places on the other side are
tied_back : (q x : ℤ) → eq_by_cmp int_cmp (back q) (back x) ≡ eq_by_cmp int_cmp q x
tied_back q x = elim (same_place q x) [
  | inl same ↦ ap (λ y. eq_by_cmp int_cmp (back y) (back x)) same ∙ tied_here (back x) ∙ sym (ap (λ y. eq_by_cmp int_cmp y x) same ∙ tied_here x)
  | inr other ↦ not_tied (back q) (back x) (λ e. other.0 (back_apart q x e)) ∙ sym other.1
]

among_back : (q : ℤ) (xs : List ℤ) → list_any (eq_by_cmp int_cmp (back q)) (map back xs) ≡ list_any (eq_by_cmp int_cmp q) xs
among_back q [] = refl
among_back q (x ∷ xs) = ap (λ b. b || list_any (eq_by_cmp int_cmp (back q)) (map back xs)) (tied_back q x) ∙ ap (λ b. eq_by_cmp int_cmp q x || b) (among_back q xs)

pub turned : Config → Config
turned c = record { state = c.state; tape = record { head = back c.tape.head; ones = set.from_list (map back (set.items c.tape.ones)) } }

pub turned_carried : (c : Config) → Carried same_state back c (turned c)
unfolding turned
turned_carried c = record {
  state = refl;
  head = refl;
  cells = λ x. ap (λ b. cond b One Zero)
      (set.contains-from_list int_cmp_total (map back (set.items c.tape.ones)) (back x) ∙ among_back x (set.items c.tape.ones) ∙ sym (set.contains-items c.tape.ones x));
}
