-- Backward reasoning over partly known tapes is sound, and its paths go one pair at a time.
use Rattle.std.proofs.Common.{◌≡◌, ℕ, zero, suc, ◌+◌, ◌-◌, ◌<◌, List, [], ◌∷◌, length, Some, sym, ◌∙◌, ap, subst, refl, arith, cond, ℤ, pos, ◌+ℤ◌, Option, None, ◌⊎◌, inl, inr, ◌≤◌}
use Rattle.std.proofs.lemmas.Option.{same_Some, none-some}
use Rattle.std.specs.Ordering.{int_eq}
use Rattle.std.specs.FinSet as set
use Rattle.std.proofs.lemmas.Int.{ints}
use Rattle.std.specs.Prelude.{Contains}
use Rattle.std.proofs.lemmas.List.Elements.{All-weaker}
use Rattle.law_turing.specs.Run.{Machine, IsMachine, Config, start, next, from, after, symbol_read, with_cell, moved_head, cell, carried_out, done_by, Takes, opposite}
use Rattle.law_turing.specs.Halting.{Never}
use Rattle.law_turing.specs.NeverHalting.{Ends, Backward, Pair, pair_of, RunsThrough, Partial, Agrees, IsNeeded, standing_on, left_behind, before_step, LeadsTo, IsPath, IsWider, AllPaths}
use Rattle.law_turing.proofs.RunLaws.{from_zero, from_add, next_is, before, not_past, by_place, not_tied, cell_here, cell_other, taken_takes, next_taken, takes, halts_at_pair}
use Rattle.law_turing.proofs.Cycles.{states_within}
use Rattle.machine_text.specs.declared.table.Sym.{Sym}
use Rattle.machine_text.specs.declared.table.Dir.{Dir}
use Rattle.machine_text.specs.declared.table.Dir.TheVariants.{L, R}
use Rattle.machine_text.specs.declared.table.Entry.{Entry}
use Rattle.law_turing.proofs.Listed.{length-le_of_members}

-- The soundness of backward reasoning, and paths against runs that end.

-- a run that halted later than time d would have a configuration d steps before its end
pub backward_never : (n : ℕ) (m : Machine) (d : ℕ) → IsMachine n m → Backward n m d → Never m
backward_never n m d machine b k s =
    let count = s.count in
    let some = machine.some in
    let later : d < k = not_past m d k b.at b.runs s in
    let (c, at) = before m (s.last - d) s.last start s.at (omega arith) s.is in
    let same_time : s.last - d + d ≡ s.last = omega arith in
    let within : c.state < n = states_within n m machine (s.last - d) start c (omega arith) at in
    b.none c within (record {
      at = s.at;
      is = sym (from_add m (s.last - d) d start c at) ∙ ap (after m) same_time ∙ s.is;
      over = s.over;
    })

-- pairs with the same parts are one
pub same_pair : (p q : Pair) → p.state ≡ q.state → p.symbol ≡ q.symbol → p ≡ q
same_pair p q state symbol =
    ap (λ x. record { state = x; symbol = p.symbol }) state ∙ ap (λ x. record { state = q.state; symbol = x }) symbol

-- an end a step further is an end from the next configuration
pub ends_next : (m : Machine) (c d : Config) (k : ℕ) → next m c ≡ Some d → Ends m c (suc k) → Ends m d k
ends_next m c d k is ends =
    let one : from m 1 c ≡ Some d = next_is m 0 c c (from_zero m c) ∙ is in
    record { at = ends.at; is = sym (from_add m 1 k c d one) ∙ ap (λ n. from m n c) (let e : 1 + k ≡ suc k = omega arith in e) ∙ ends.is; over = ends.over }

pub ends_before : (m : Machine) (c d : Config) (k : ℕ) → next m c ≡ Some d → Ends m d k → Ends m c (suc k)
ends_before m c d k is ends =
    let one : from m 1 c ≡ Some d = next_is m 0 c c (from_zero m c) ∙ is in
    record { at = ends.at; is = ap (λ n. from m n c) (let e : suc k ≡ 1 + k = omega arith in e) ∙ from_add m 1 k c d one ∙ ends.is; over = ends.over }

-- a run through k + 1 pairs ends after k steps
pub path_ends : (m : Machine) (k : ℕ) (c : Config) (ps : List Pair) → length ps ≡ suc k → RunsThrough m (Some c) ps → Ends m c k
path_ends m k c [] size runs = absurd (none-some c (sym runs))
path_ends m zero c (p ∷ []) size runs =
    let same = same_Some c runs.0 runs.1 in
    record { at = c; is = from_zero m c; over = ap (next m) same ∙ runs.3 }
path_ends m zero c (p ∷ (q ∷ ps)) size runs = absurd (omega arith)
path_ends m (suc k) c (p ∷ []) size runs = absurd (omega arith)
path_ends m (suc k) c (p ∷ (q ∷ ps)) size runs =
    let same = same_Some c runs.0 runs.1 in
    let further = runs.3 in
    let goes : next m c ≡ Some further.0 = ap (next m) same ∙ further.1 in
    ends_before m c further.0 k goes (path_ends m k further.0 (q ∷ ps) (omega arith) (subst (λ o. RunsThrough m o (q ∷ ps)) further.1 further))

-- a run that ends after k steps goes through k + 1 pairs
pub ends_path : (m : Machine) (k : ℕ) (c : Config) → Ends m c k → (ps : List Pair) × (length ps ≡ suc k) × RunsThrough m (Some c) ps
ends_path m zero c ends =
    let same : c ≡ ends.at = same_Some c ends.at (sym (from_zero m c) ∙ ends.is) in
    (pair_of c ∷ [], refl, (c, refl, refl, ap (next m) same ∙ ends.over))
ends_path m (suc k) c ends =
    let (b, at) = before m 1 (suc k) c ends.at (omega arith) ends.is in
    let goes : next m c ≡ Some b = sym (next_is m 0 c c (from_zero m c)) ∙ at in
    let (ps, size, runs) = ends_path m k b (ends_next m c b k goes ends) in
    (pair_of c ∷ ps, ap suc size, (c, refl, refl, subst (λ o. RunsThrough m o ps) (sym goes) runs))

-- The paths of backward reasoning over partly known tapes: the pair before, and what it needs.

-- what is known at the head, and elsewhere
at_head : (x : ℤ) (a b : Option Sym) → x ≡ pos 0 → cond (int_eq x (pos 0)) a b ≡ a
at_head x a b here = ap (λ y. cond (int_eq y (pos 0)) a b) here

off_head : (x : ℤ) (a b : Option Sym) → (x ≡ pos 0 → ⊥) → cond (int_eq x (pos 0)) a b ≡ b
off_head x a b other = ap (λ t. cond t a b) (not_tied x (pos 0) other)

no_place : (h : ℤ) → h +ℤ pos 0 ≡ h
no_place h = omega (arith, ints)

-- two that agree in state and cells stand on one pair
on_pair : (p : Pair) (c : Config) → c.state ≡ p.state → cell c (c.tape.head +ℤ pos 0) ≡ p.symbol → pair_of c ≡ p
on_pair p c state symbol = same_pair (pair_of c) p state (ap (cell c) (sym (no_place c.tape.head)) ∙ symbol)

state_on : (p : Pair) (c : Config) → pair_of c ≡ p → c.state ≡ p.state
state_on p c on = ap (λ (q : Pair). q.state) on

symbol_on : (p : Pair) (c : Config) → pair_of c ≡ p → symbol_read c.tape ≡ p.symbol
symbol_on p c on = ap (λ (q : Pair). q.symbol) on

pub entry_on : (m : Machine) (p : Pair) (c : Config) → pair_of c ≡ p → m c.state (symbol_read c.tape) ≡ m p.state p.symbol
entry_on m p c on = ap (λ (q : Pair). m q.state q.symbol) on

-- the first pair of those that a run goes through is its own
pub runs_first : (m : Machine) (c : Config) (p : Pair) (ps : List Pair) → RunsThrough m (Some c) (p ∷ ps) → (pair_of c ≡ p) × RunsThrough m (next m c) ps
runs_first m c p ps runs =
    let same = same_Some c runs.0 runs.1 in
    (ap pair_of same ∙ runs.2, subst (λ d. RunsThrough m (next m d) ps) (sym same) runs.3)

-- a configuration on a pair, on a tape that is blank elsewhere
abbrev blank_on : Pair → Config
blank_on p = record { state = p.state; tape = record { head = pos 0; ones = with_cell set.empty (pos 0) p.symbol } }

blank_on_agrees : (p : Pair) → Agrees (standing_on p) (blank_on p)
blank_on_agrees p = record {
  state = refl;
  cells = λ x s known. by_place x (pos 0)
      (λ here.
      let same : p.symbol ≡ s = same_Some p.symbol s (sym (at_head x (Some p.symbol) None here) ∙ known) in
      ap (λ y. cell (blank_on p) (pos 0 +ℤ y)) here ∙ cell_here set.empty (pos 0) p.symbol ∙ same)
      (λ other. absurd (none-some s (sym (off_head x (Some p.symbol) None other) ∙ known)));
}

-- a halting pair needs its state and the cell at the head
pub base_law : (m : Machine) (p : Pair) → m p.state p.symbol ≡ None → IsNeeded m (standing_on p) (p ∷ [])
base_law m p halts = record {
  only = λ c runs.
      let (on, over) = runs_first m c p [] runs in
      record {
        state = state_on p c on;
        cells = λ x s known. by_place x (pos 0)
            (λ here.
            let same : p.symbol ≡ s = same_Some p.symbol s (sym (at_head x (Some p.symbol) None here) ∙ known) in
            ap (λ y. cell c (c.tape.head +ℤ y)) here ∙ ap (cell c) (no_place c.tape.head) ∙ symbol_on p c on ∙ same)
            (λ other. absurd (none-some s (sym (off_head x (Some p.symbol) None other) ∙ known)));
      };
  enough = λ c agrees.
      let on : pair_of c ≡ p = on_pair p c agrees.state (agrees.cells (pos 0) p.symbol refl) in
      (c, refl, on, ap (done_by c) (entry_on m p c on ∙ halts));
  some = (blank_on p, blank_on_agrees p);
}

-- counting from the head before a move and after it
moved_place : (h x : ℤ) (d : Dir) → moved_head h d +ℤ moved_head x (opposite d) ≡ h +ℤ x
moved_place h x L = omega (arith, ints)
moved_place h x R = omega (arith, ints)

there_and_back : (x : ℤ) (d : Dir) → moved_head (moved_head x d) (opposite d) ≡ x
there_and_back x L = omega (arith, ints)
there_and_back x R = omega (arith, ints)

off_place : (h x : ℤ) → (x ≡ pos 0 → ⊥) → h +ℤ x ≡ h → ⊥
off_place h x other same = other (omega (arith, ints))

-- what is known of a configuration is known of the one before a step, but in the cell that the step wrote
agrees_before : (m : Machine) (p : Pair) (e : Entry) (k : Partial) (c d : Config) → pair_of c ≡ p → Takes m c e d → Agrees k d → Agrees (before_step p e k) c
agrees_before m p e k c d on t agrees = record {
  state = state_on p c on;
  cells = λ x s known. by_place x (pos 0)
      (λ here.
      let same : p.symbol ≡ s = same_Some p.symbol s (sym (at_head x (Some p.symbol) (k.cells (moved_head x (opposite e.dir))) here) ∙ known) in
      ap (λ y. cell c (c.tape.head +ℤ y)) here ∙ ap (cell c) (no_place c.tape.head) ∙ symbol_on p c on ∙ same)
      (λ other.
      let later : k.cells (moved_head x (opposite e.dir)) ≡ Some s = sym (off_head x (Some p.symbol) (k.cells (moved_head x (opposite e.dir))) other) ∙ known in
      let place : d.tape.head +ℤ moved_head x (opposite e.dir) ≡ c.tape.head +ℤ x = ap (λ h. h +ℤ moved_head x (opposite e.dir)) t.head ∙ moved_place c.tape.head x e.dir in
      sym (t.others (c.tape.head +ℤ x) (off_place c.tape.head x other)) ∙ ap (cell d) (sym place) ∙ agrees.cells (moved_head x (opposite e.dir)) s later);
}

-- where a step's entry leads to what is known, the configuration after it agrees with that
agrees_after : (m : Machine) (p : Pair) (e : Entry) (k : Partial) (c d : Config) → LeadsTo e k → Takes m c e d → Agrees (before_step p e k) c → Agrees k d
agrees_after m p e k c d leads t agrees = record {
  state = t.state ∙ sym leads.state;
  cells = λ y s known. by_place (moved_head y e.dir) (pos 0)
      (λ here.
      let behind : y ≡ left_behind e.dir = sym (there_and_back y e.dir) ∙ ap (λ x. moved_head x (opposite e.dir)) here in
      let left : k.cells (left_behind e.dir) ≡ Some s = ap k.cells (sym behind) ∙ known in
      let place : d.tape.head +ℤ y ≡ c.tape.head = place_of y ∙ ap (λ x. c.tape.head +ℤ x) here ∙ no_place c.tape.head in
      let wrote : e.write ≡ s = elim leads.written [
        | inl none ↦ absurd (none-some s (sym none ∙ left))
        | inr some ↦ same_Some e.write s (sym some ∙ left)
      ] in
      ap (cell d) place ∙ t.here ∙ wrote)
      (λ other.
      let earlier : (before_step p e k).cells (moved_head y e.dir) ≡ Some s =
      off_head (moved_head y e.dir) (Some p.symbol) (k.cells (moved_head (moved_head y e.dir) (opposite e.dir))) other ∙ ap k.cells (there_and_back y e.dir) ∙ known in
      ap (cell d) (place_of y) ∙ t.others (c.tape.head +ℤ moved_head y e.dir) (off_place c.tape.head (moved_head y e.dir) other) ∙ agrees.cells (moved_head y e.dir) s earlier);
}
  where
    place_of : (y : ℤ) → d.tape.head +ℤ y ≡ c.tape.head +ℤ moved_head y e.dir
    place_of y =
        ap (λ h. h +ℤ y) t.head ∙ ap (λ z. moved_head c.tape.head e.dir +ℤ z) (sym (there_and_back y e.dir)) ∙ moved_place c.tape.head (moved_head y e.dir) e.dir

-- a configuration before one that agrees: on the pair, where the head came from
abbrev stepped_back : Pair → Entry → Config → Config
stepped_back p e d = record {
  state = p.state;
  tape = record { head = moved_head d.tape.head (opposite e.dir); ones = with_cell d.tape.ones (moved_head d.tape.head (opposite e.dir)) p.symbol };
}

back_place : (h x : ℤ) (d : Dir) → moved_head h (opposite d) +ℤ x ≡ h +ℤ moved_head x (opposite d)
back_place h x L = omega (arith, ints)
back_place h x R = omega (arith, ints)

stepped_back_agrees : (p : Pair) (e : Entry) (k : Partial) (d : Config) → Agrees k d → Agrees (before_step p e k) (stepped_back p e d)
stepped_back_agrees p e k d agrees = record {
  state = refl;
  cells = λ x s known. by_place x (pos 0)
      (λ here.
      let same : p.symbol ≡ s = same_Some p.symbol s (sym (at_head x (Some p.symbol) (k.cells (moved_head x (opposite e.dir))) here) ∙ known) in
      ap (λ y. cell (stepped_back p e d) (h +ℤ y)) here ∙ ap (cell (stepped_back p e d)) (no_place h) ∙ cell_here d.tape.ones h p.symbol ∙ same)
      (λ other.
      let later : k.cells (moved_head x (opposite e.dir)) ≡ Some s = sym (off_head x (Some p.symbol) (k.cells (moved_head x (opposite e.dir))) other) ∙ known in
      cell_other d.tape.ones h p.symbol (h +ℤ x) (off_place h x other) ∙ ap (cell d) (back_place d.tape.head x e.dir) ∙ agrees.cells (moved_head x (opposite e.dir)) s later);
}
  where
    h : ℤ
    h = moved_head d.tape.head (opposite e.dir)

-- a pair before a path, where its entry leads to what the path needs
pub join_law : (m : Machine) (p : Pair) (e : Entry) (k : Partial) (ps : List Pair) → m p.state p.symbol ≡ Some e → LeadsTo e k → IsNeeded m k ps →
    IsNeeded m (before_step p e k) (p ∷ ps)
join_law m p e k ps entry leads needed = record {
  only = λ c runs.
      let (on, further) = runs_first m c p ps runs in
      let is : m c.state (symbol_read c.tape) ≡ Some e = entry_on m p c on ∙ entry in
      agrees_before m p e k c (carried_out c e) on (taken_takes m c e is)
      (needed.only (carried_out c e) (subst (λ o. RunsThrough m o ps) (next_taken m c e is) further));
  enough = λ c agrees.
      let on : pair_of c ≡ p = on_pair p c agrees.state (agrees.cells (pos 0) p.symbol refl) in
      let is : m c.state (symbol_read c.tape) ≡ Some e = entry_on m p c on ∙ entry in (
        c,
        refl,
        on,
        subst (λ o. RunsThrough m o ps) (sym (next_taken m c e is))
            (needed.enough (carried_out c e) (agrees_after m p e k c (carried_out c e) leads (taken_takes m c e is) agrees)),
      );
  some = (stepped_back p e needed.some.0, stepped_back_agrees p e k needed.some.0 needed.some.1);
}

-- a pair stands before a path only where its entry leads to what the path needs
pub clash_law : (m : Machine) (p : Pair) (e : Entry) (k : Partial) (ps : List Pair) → m p.state p.symbol ≡ Some e → IsNeeded m k ps →
    (c : Config) → RunsThrough m (Some c) (p ∷ ps) → LeadsTo e k
clash_law m p e k ps entry needed c runs = record { state = sym agrees.state; written = go (k.cells (left_behind e.dir)) refl }
  where
    on : pair_of c ≡ p
    on = (runs_first m c p ps runs).0

    is : m c.state (symbol_read c.tape) ≡ Some e
    is = entry_on m p c on ∙ entry

    agrees : Agrees k (carried_out c e)
    agrees = needed.only (carried_out c e) (subst (λ o. RunsThrough m o ps) (next_taken m c e is) (runs_first m c p ps runs).1)

    place : moved_head c.tape.head e.dir +ℤ left_behind e.dir ≡ c.tape.head
    place = moved_place c.tape.head (pos 0) e.dir ∙ no_place c.tape.head

    go : (o : Option Sym) → k.cells (left_behind e.dir) ≡ o → (k.cells (left_behind e.dir) ≡ None) ⊎ (k.cells (left_behind e.dir) ≡ Some e.write)
    go None none = inl none
    go (Some s) some =
        let wrote : s ≡ e.write = sym (agrees.cells (left_behind e.dir) s some) ∙ ap (cell (carried_out c e)) place ∙ (taken_takes m c e is).here in
        inr (some ∙ ap Some wrote)

-- Paths one pair at a time, and how many there are.

-- what is needed by pairs makes them a path
pub needed_path : (n : ℕ) (m : Machine) (d : ℕ) (k : Partial) (ps : List Pair) → IsNeeded m k ps → k.state < n → length ps ≡ suc d → IsPath n m d ps
needed_path n m d k ps needed within size =
    let (c, agrees) = needed.some in
    record { size = size; start = c; within = subst (λ q. q < n) (sym agrees.state) within; runs = needed.enough c agrees }

-- a path of depth 0 is a halting pair
pub path_zero : (n : ℕ) (m : Machine) (qs : List Pair) → IsPath n m 0 qs → (p : Pair) × (qs ≡ p ∷ []) × (p.state < n) × (m p.state p.symbol ≡ None)
path_zero n m [] path = let size = path.size in absurd (omega arith)
path_zero n m (p ∷ []) path =
    let (on, over) = runs_first m path.start p [] path.runs in
    (p, refl, subst (λ q. q < n) (ap (λ (x : Pair). x.state) on) path.within, sym (entry_on m p path.start on) ∙ halts_at_pair m path.start over)
path_zero n m (p ∷ (q ∷ qs)) path = let size = path.size in absurd (omega arith)

pub zero_path : (n : ℕ) (m : Machine) (p : Pair) → p.state < n → m p.state p.symbol ≡ None → IsPath n m 0 (p ∷ [])
zero_path n m p within halts = needed_path n m 0 (standing_on p) (p ∷ []) (base_law m p halts) within refl

-- a deeper path is a pair with an entry, and a path
pub path_suc : (n : ℕ) (m : Machine) → IsMachine n m → (k : ℕ) (qs : List Pair) → IsPath n m (suc k) qs →
    (p : Pair) × (ps : List Pair) × (e : Entry) × (qs ≡ p ∷ ps) × (p.state < n) × (m p.state p.symbol ≡ Some e) × IsPath n m k ps
path_suc n m machine k [] path = let size = path.size in absurd (omega arith)
path_suc n m machine k (p ∷ []) path = let size = path.size in absurd (omega arith)
path_suc n m machine k (p ∷ (q ∷ qs)) path =
    let size = path.size in
    let (on, further) = runs_first m path.start p (q ∷ qs) path.runs in
    let (e, t) = takes m path.start further.0 further.1 in
    let within : p.state < n = subst (λ q. q < n) (ap (λ (x : Pair). x.state) on) path.within in
    let entry : m p.state p.symbol ≡ Some e = sym (entry_on m p path.start on) ∙ t.is in (
      p,
      q ∷ qs,
      e,
      refl,
      within,
      entry,
      record {
        size = omega arith;
        start = further.0;
        within = subst (λ x. x < n) (sym t.state) (machine.inside p.state p.symbol e entry);
        runs = subst (λ o. RunsThrough m o (q ∷ qs)) further.1 further;
      },
    )

-- there are more than so many paths exactly where a list of all of them, each once, is longer
pub wider_law : (n : ℕ) (m : Machine) (k limit : ℕ) (paths : List (List Pair)) → AllPaths n m k paths → IsWider n m k limit → limit < length paths
wider_law n m k limit paths all wider =
    let more = wider.more in
    let short : length wider.paths ≤ length paths =
    length-le_of_members paths wider.paths (All-weaker (IsPath n m k) (Contains paths) all.every wider.paths wider.each) wider.different in
    omega arith

pub longer_wider : (n : ℕ) (m : Machine) (k limit : ℕ) (paths : List (List Pair)) → AllPaths n m k paths → limit < length paths → IsWider n m k limit
longer_wider n m k limit paths all more = record { paths = paths; each = all.each; different = all.different; more = more }
