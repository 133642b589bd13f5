-- A machine that automata fit never halts, they speak of every tape, and mirror images fit alike.
use Rattle.std.proofs.Common.{◌≡◌, ℕ, zero, suc, ◌<◌, ℤ, pos, ◌+ℤ◌, ◌-ℤ◌, ◌<ℤ◌, sym, ◌∙◌, ap, subst, refl, arith, ◌≢◌, true, false, IsTrue, List, [], ◌∷◌, ◌++◌, replicate, Some, None, ◌≤ℤ◌}
use Rattle.std.proofs.lemmas.Int.{ints}
use Rattle.machine_text.specs.declared.table.Sym.{Sym}
use Rattle.machine_text.specs.declared.table.Sym.TheVariants.{Zero}
use Rattle.machine_text.specs.declared.table.Dir.TheVariants.{R, L}
use Rattle.law_turing.specs.Run.{Config, start, cell, Machine, IsMachine, symbol_read, moved_head, next, from, Takes, opposite, mirrored, after}
use Rattle.law_turing.specs.NeverHalting.{read_behind, word, Node, At, Halt, TwoAutomata, Fits, Reaches, ReadsBehind, symbols_ahead, LeadsToHalt, Beyond, Farthest, Translated}
use Rattle.law_turing.proofs.Cycles.{start_blank}
use Rattle.machine_text.specs.declared.table.Dir.{Dir}
use Rattle.machine_text.specs.declared.table.Entry.{Entry}
use Rattle.law_turing.specs.Halting.{Never}
use Rattle.law_turing.proofs.RunLaws.{takes, halts_at_pair, backward_law, alike_at, alike_none, Alike}
use Rattle.law_turing.proofs.ClosedSets.{word_first, word_last, word_same, word_blank}
use Rattle.law_turing.proofs.Renaming.{mirror_keeps, mirrored_machine, unmirrored, opposite_twice, Carried, carried_step, same_state, back, mirror_renames, turned, turned_carried, carried_start, mirrored_twice}

-- What an automaton makes of the half tape left of a place: blank cells far away leave it in its start state.

-- the state after so many cells left of x are read, the nearest last
abbrev pub read : (ℕ → Sym → ℕ) → Config → ℤ → ℕ → ℕ
read delta c x far = read_behind delta R c x far

-- q is the state after the half tape left of x is read: enough cells for all beyond them to be blank
pub record Reads (delta : ℕ → Sym → ℕ) (c : Config) (x : ℤ) (q : ℕ) : Type 0 where
  pub far : ℕ
  pub zeros : (y : ℤ) → y <ℤ (x -ℤ pos far) → cell c y ≡ Zero
  pub is : q ≡ read delta c x far

read_same : (delta : ℕ → Sym → ℕ) (c d : Config) (x : ℤ) (far : ℕ) → ((y : ℤ) → y <ℤ x → cell c y ≡ cell d y) → read delta c x far ≡ read delta d x far
read_same delta c d x zero same = refl
read_same delta c d x (suc far) same =
    ap (λ q. delta q (cell c (x -ℤ pos 1))) (read_same delta c d (x -ℤ pos 1) far (λ y below. same y (omega (arith, ints)))) ∙
    ap (delta (read delta d (x -ℤ pos 1) far)) (same (x -ℤ pos 1) (omega (arith, ints)))

-- the cells left of x are all that is read
pub reads_same : (delta : ℕ → Sym → ℕ) (c d : Config) (x : ℤ) (q : ℕ) → ((y : ℤ) → y <ℤ x → cell c y ≡ cell d y) → Reads delta c x q → Reads delta d x q
reads_same delta c d x q same r = record {
  far = r.far;
  zeros = λ y below. sym (same y (omega (arith, ints))) ∙ r.zeros y below;
  is = r.is ∙ read_same delta c d x r.far same;
}

-- one cell more
pub reads_more : (delta : ℕ → Sym → ℕ) (c : Config) (x : ℤ) (q : ℕ) → Reads delta c x q → Reads delta c (x +ℤ pos 1) (delta q (cell c x))
reads_more delta c x q r =
    let place : (x +ℤ pos 1) -ℤ pos 1 ≡ x = omega (arith, ints) in
    record {
      far = suc r.far;
      zeros = λ y below. r.zeros y (omega (arith, ints));
      is = ap (λ p. delta p (cell c x)) r.is ∙ sym (ap (λ z. delta (read delta c z r.far) (cell c z)) place);
    }

-- one cell less
pub reads_less : (delta : ℕ → Sym → ℕ) (c : Config) (x : ℤ) (q : ℕ) → delta 0 Zero ≡ 0 → Reads delta c x q →
    (p : ℕ) × Reads delta c (x -ℤ pos 1) p × (q ≡ delta p (cell c (x -ℤ pos 1)))
reads_less delta c x q blank r = go r.far r.zeros r.is
  where
    go : (far : ℕ) → ((y : ℤ) → y <ℤ (x -ℤ pos far) → cell c y ≡ Zero) → q ≡ read delta c x far →
        (p : ℕ) × Reads delta c (x -ℤ pos 1) p × (q ≡ delta p (cell c (x -ℤ pos 1)))
    go zero zeros is = (
      0,
      record { far = 0; zeros = λ y below. zeros y (omega (arith, ints)); is = refl },
      is ∙ sym blank ∙ ap (delta 0) (sym (zeros (x -ℤ pos 1) (omega (arith, ints)))),
    )
    go (suc far) zeros is =
        (read delta c (x -ℤ pos 1) far, record { far = far; zeros = λ y below. zeros y (omega (arith, ints)); is = refl }, is)

read_below : (delta : ℕ → Sym → ℕ) (size : ℕ) → 0 < size → ((q : ℕ) (s : Sym) → q < size → delta q s < size) →
    (c : Config) (x : ℤ) (far : ℕ) → read delta c x far < size
read_below delta size some states c x zero = some
read_below delta size some states c x (suc far) = states _ _ (read_below delta size some states c (x -ℤ pos 1) far)

-- what is read is a state
pub reads_below : (delta : ℕ → Sym → ℕ) (size : ℕ) → 0 < size → ((q : ℕ) (s : Sym) → q < size → delta q s < size) →
    (c : Config) (x : ℤ) (q : ℕ) → Reads delta c x q → q < size
reads_below delta size some states c x q r = subst (λ p. p < size) (sym r.is) (read_below delta size some states c x r.far)

-- the blank tape
pub reads_blank : (delta : ℕ → Sym → ℕ) (x : ℤ) → Reads delta start x 0
reads_blank delta x = record { far = 0; zeros = λ y below. start_blank y; is = refl }

-- A machine that automata fit never halts: from each configuration that comes to a halting pair the second
-- automaton comes to its halt state.

-- the halt state stays
longer : (a : TwoAutomata) → ((s : Sym) → IsTrue (a.edge Halt s Halt)) → (u : Node) (w : List Sym) (s : Sym) → Reaches a u w Halt → Reaches a u (w ++ s ∷ []) Halt
longer a halted u [] s reaches = (Halt, subst (λ x. IsTrue (a.edge x s Halt)) (sym reaches) (halted s), refl)
longer a halted u (r ∷ w) s reaches = (reaches.0, reaches.1, longer a halted reaches.0 w s reaches.2)

-- what is kept stays kept over blank cells
kept_blank : (a : TwoAutomata) → ((u v : Node) → IsTrue (a.keep u) → IsTrue (a.edge u Zero v) → IsTrue (a.keep v)) →
    (k : ℕ) (u v : Node) → IsTrue (a.keep u) → Reaches a u (replicate k Zero) v → IsTrue (a.keep v)
kept_blank a blank_kept zero u v kept reaches = subst (λ x. IsTrue (a.keep x)) reaches kept
kept_blank a blank_kept (suc k) u v kept reaches = kept_blank a blank_kept k reaches.0 v (blank_kept u reaches.0 kept reaches.1) reaches.2

-- from a configuration of one of n states the second automaton comes to its halt state, by some cells from the head on
Leads : ℕ → TwoAutomata → Config → Type 0
Leads n a c = c.state < n → (q : ℕ) → Reads a.delta c c.tape.head q → (k : ℕ) × Reaches a (At q c.state) (word c c.tape.head k) Halt

not_left : (e : Entry) → e.dir ≡ L → e.dir ≢ R
not_left e is_left is_right = absurd (let f : L ≡ R = sym is_left ∙ is_right in cc)

-- no cells
reaches_none : (a : TwoAutomata) (c : Config) (x : ℤ) (u : Node) → Reaches a u (word c x 0) u
unfolding word
reaches_none a c x u = refl

-- an edge by one cell, and then by the next ones
by_edge : (a : TwoAutomata) (c : Config) (x : ℤ) (k : ℕ) (u t v : Node) → IsTrue (a.edge u (cell c x) t) → Reaches a t (word c (x +ℤ pos 1) k) v → Reaches a u (word c x (suc k)) v
by_edge a c x k u t v edge reaches = subst (λ w. Reaches a u w v) (sym (word_first c x k)) (t, edge, reaches)

-- and back: the first edge, and what follows
first_edge : (a : TwoAutomata) (c : Config) (x : ℤ) (k : ℕ) (u v : Node) → Reaches a u (word c x (suc k)) v →
    (t : Node) × IsTrue (a.edge u (cell c x) t) × Reaches a t (word c (x +ℤ pos 1) k) v
first_edge a c x k u v reaches = subst (λ w. Reaches a u w v) (word_first c x k) reaches

-- one cell more
longer_by : (a : TwoAutomata) → ((s : Sym) → IsTrue (a.edge Halt s Halt)) → (c : Config) (x : ℤ) (k : ℕ) (u : Node) → Reaches a u (word c x k) Halt → Reaches a u (word c x (suc k)) Halt
longer_by a halted c x k u reaches =
    subst (λ w. Reaches a u w Halt) (sym (word_last c x k)) (longer a halted u (word c x k) (cell c (x +ℤ pos k)) reaches)

-- a step leaves the cells ahead of it, and those behind
same_ahead : (m : Machine) (c d : Config) (e : Entry) (k : ℕ) → Takes m c e d → word d (c.tape.head +ℤ pos 1) k ≡ word c (c.tape.head +ℤ pos 1) k
same_ahead m c d e k t = word_same d c (c.tape.head +ℤ pos 1) k (λ y low high. t.others y (λ same. omega (arith, ints)))

same_behind : (m : Machine) (c d : Config) (e : Entry) → Takes m c e d → (y : ℤ) → y <ℤ c.tape.head → cell c y ≡ cell d y
same_behind m c d e t y below = sym (t.others y (λ same. omega (arith, ints)))

module _ (n : ℕ) (m : Machine) (machine : IsMachine n m) (a : TwoAutomata) (fits : Fits n m R a) where
  below : (c : Config) (x : ℤ) (q : ℕ) → Reads a.delta c x q → q < a.size
  below = reads_below a.delta a.size fits.some fits.states

  -- on a halting pair
  leads_at_end : (c : Config) → next m c ≡ None → Leads n a c
  unfolding Leads
  leads_at_end c over within q reads = (
    1,
    by_edge a c c.tape.head 0 (At q c.state) Halt Halt
        (fits.halting q c.state (symbol_read c.tape) (below c c.tape.head q reads) within (halts_at_pair m c over))
        (reaches_none a c (c.tape.head +ℤ pos 1) Halt),
  )

  -- before a move to the right
  leads_right : (c d : Config) (e : Entry) → Takes m c e d → e.dir ≡ R → Leads n a d → Leads n a c
  unfolding Leads
  leads_right c d e t is_right leads within q reads = go (leads there (a.delta q e.write) later)
    where
      h : ℤ
      h = c.tape.head

      head : d.tape.head ≡ c.tape.head +ℤ pos 1
      head = t.head ∙ ap (moved_head c.tape.head) is_right

      there : d.state < n
      there = subst (λ x. x < n) (sym t.state) (machine.inside _ _ e t.is)

      later : Reads a.delta d d.tape.head (a.delta q e.write)
      later = subst (λ x. Reads a.delta d x (a.delta q e.write)) (sym head)
          (subst (λ s. Reads a.delta d (c.tape.head +ℤ pos 1) (a.delta q s)) t.here
          (reads_more a.delta d c.tape.head q (reads_same a.delta c d c.tape.head q (same_behind m c d e t) reads)))

      go : (k : ℕ) × Reaches a (At (a.delta q e.write) d.state) (word d d.tape.head k) Halt → (k : ℕ) × Reaches a (At q c.state) (word c c.tape.head k) Halt
      go (k, reaches) = (
        suc k,
        by_edge a c c.tape.head k (At q c.state) (At (a.delta q e.write) e.next.0) Halt
            (fits.ahead q c.state (symbol_read c.tape) e (below c c.tape.head q reads) within t.is is_right)
            (subst (λ w. Reaches a (At (a.delta q e.write) e.next.0) w Halt) (ap (λ x. word d x k) head ∙ same_ahead m c d e k t)
            (subst (λ f. Reaches a (At (a.delta q e.write) f) (word d d.tape.head k) Halt) t.state reaches)),
      )

  -- before a move to the left
  leads_left : (c d : Config) (e : Entry) → Takes m c e d → e.dir ≡ L → Leads n a d → Leads n a c
  unfolding Leads
  leads_left c d e t is_left leads within q reads = go (reads_less a.delta c c.tape.head q fits.blank reads)
    where
      head : d.tape.head ≡ c.tape.head -ℤ pos 1
      head = t.head ∙ ap (moved_head c.tape.head) is_left

      there : d.state < n
      there = subst (λ x. x < n) (sym t.state) (machine.inside _ _ e t.is)

      left : ℤ
      left = c.tape.head -ℤ pos 1

      left_end : (c.tape.head -ℤ pos 1) +ℤ pos 1 ≡ c.tape.head
      left_end = omega (arith, ints)

      left_same : cell d (c.tape.head -ℤ pos 1) ≡ cell c (c.tape.head -ℤ pos 1)
      left_same = t.others (c.tape.head -ℤ pos 1) (λ same. omega (arith, ints))

      -- two edges of the run after the step make one before it
      two : (p k : ℕ) → p < a.size → q ≡ a.delta p (cell c (c.tape.head -ℤ pos 1)) →
          Reaches a (At p e.next.0) (word d (c.tape.head -ℤ pos 1) (suc (suc k))) Halt → Reaches a (At q c.state) (word c c.tape.head (suc k)) Halt
      two p k small is reaches =
          let (u, first, further) = first_edge a d (c.tape.head -ℤ pos 1) (suc k) (At p e.next.0) Halt reaches in
          let (v, second, rest) = first_edge a d c.tape.head k u Halt (subst (λ x. Reaches a u (word d x (suc k)) Halt) left_end further) in
          let edge : IsTrue (a.edge (At (a.delta p (cell c (c.tape.head -ℤ pos 1))) c.state) (symbol_read c.tape) v) =
          fits.back p c.state (symbol_read c.tape) (cell c (c.tape.head -ℤ pos 1)) e u v small within t.is (not_left e is_left)
          (subst (λ s. IsTrue (a.edge (At p e.next.0) s u)) left_same first) (subst (λ s. IsTrue (a.edge u s v)) t.here second) in
          by_edge a c c.tape.head k (At q c.state) v Halt
          (subst (λ x. IsTrue (a.edge (At x c.state) (symbol_read c.tape) v)) (sym is) edge)
          (subst (λ w. Reaches a v w Halt) (same_ahead m c d e k t) rest)

      go : (p : ℕ) × Reads a.delta c (c.tape.head -ℤ pos 1) p × (q ≡ a.delta p (cell c (c.tape.head -ℤ pos 1))) → (k : ℕ) × Reaches a (At q c.state) (word c c.tape.head k) Halt
      go (p, before, is) = far (leads there p later)
        where
          later : Reads a.delta d d.tape.head p
          later = subst (λ x. Reads a.delta d x p) (sym head)
              (reads_same a.delta c d (c.tape.head -ℤ pos 1) p (λ y less. same_behind m c d e t y (omega (arith, ints))) before)

          far : (k : ℕ) × Reaches a (At p d.state) (word d d.tape.head k) Halt → (k : ℕ) × Reaches a (At q c.state) (word c c.tape.head k) Halt
          far (k, reaches) = (
            suc k,
            two p k (below c (c.tape.head -ℤ pos 1) p before) is
                (longer_by a fits.halted d (c.tape.head -ℤ pos 1) (suc k) (At p e.next.0) (longer_by a fits.halted d (c.tape.head -ℤ pos 1) k (At p e.next.0)
                (subst (λ f. Reaches a (At p f) (word d (c.tape.head -ℤ pos 1) k) Halt) t.state (subst (λ x. Reaches a (At p d.state) (word d x k) Halt) head reaches)))),
          )

  -- before a step
  leads_back : (c d : Config) → next m c ≡ Some d → Leads n a d → Leads n a c
  leads_back c d is leads =
      let (e, t) = takes m c d is in
      go e t e.dir refl
    where
      go : (e : Entry) → Takes m c e d → (f : Dir) → e.dir ≡ f → Leads n a c
      go e t L left = leads_left c d e t left leads
      go e t R right = leads_right c d e t right leads

  -- before a whole run that comes to a halting pair
  pub leads_from : (k : ℕ) (c d : Config) → from m k c ≡ Some d → next m d ≡ None → c.state < n → (q : ℕ) → Reads a.delta c c.tape.head q →
      (j : ℕ) × Reaches a (At q c.state) (word c c.tape.head j) Halt
  unfolding Leads
  leads_from k c d is over = backward_law m (Leads n a) leads_at_end leads_back k c d is over

  -- the blank tape leads to no halt state
  pub far_right_never : Never m
  far_right_never k s =
      let (j, reaches) = leads_from s.last start s.at s.is s.over machine.some 0 (reads_blank a.delta (pos 0)) in
      let kept : IsTrue (a.keep Halt) = kept_blank a fits.blank_kept j (At 0 0) Halt fits.start_kept (subst (λ w. Reaches a (At 0 0) w Halt) (word_blank (pos 0) j) reaches) in
      let clash : false ≡ true = sym fits.halt_not_kept ∙ kept in
      absurd (cc)

-- automata that fit a machine fit its mirror image, with the other side ahead
pub fits_mirrored : (n : ℕ) (m : Machine) (side : Dir) (a : TwoAutomata) → Fits n m side a → Fits n (mirrored m) (opposite side) a
fits_mirrored n m side a fits = record {
  some = fits.some;
  states = fits.states;
  blank = fits.blank;
  halted = fits.halted;
  halting = λ q f r small within none. fits.halting q f r small within (unmirrored m f r None none);
  ahead = λ q f r e small within some is_ahead. fits.ahead q f r (turned e) small within (unmirrored m f r (Some e) some) (ap opposite is_ahead ∙ opposite_twice side);
  back = λ q f r b e u v small within some not_ahead first second.
      fits.back q f r b (turned e) u v small within (unmirrored m f r (Some e) some) (λ is_ahead. not_ahead (sym (opposite_twice e.dir) ∙ ap opposite is_ahead)) first second;
  start_kept = fits.start_kept;
  blank_kept = fits.blank_kept;
  halt_not_kept = fits.halt_not_kept;
}
  where
    turned : Entry → Entry
    turned e = record { write = e.write; dir = opposite e.dir; next = e.next }

-- a machine that automata fit never halts, whichever side is ahead
pub automata_never : (n : ℕ) (m : Machine) (side : Dir) (a : TwoAutomata) → IsMachine n m → Fits n m side a → Never m
automata_never n m R a machine fits = far_right_never n m machine a fits
automata_never n m L a machine fits =
    λ k s. far_right_never n (mirrored m) (mirrored_machine n m machine) a (fits_mirrored n m L a fits) k (mirror_keeps m k s)

-- TwoAutomata that fit a machine say of every tape what they say of the blank one: what comes to a halting pair leads to
-- the halt state.

-- to the right, the symbols ahead are a word
word_ahead : (c : Config) (x : ℤ) (k : ℕ) → symbols_ahead R c x k ≡ word c x k
unfolding word
word_ahead c x zero = refl
word_ahead c x (suc k) = ap (λ w. cell c x ∷ w) (word_ahead c (x +ℤ pos 1) k)

reads_left : (delta : ℕ → Sym → ℕ) (c : Config) (x : ℤ) (q : ℕ) → ReadsBehind delta R c x q → Reads delta c x q
reads_left delta c x q r = record { far = r.far; zeros = λ y below. r.zeros y (omega (arith, ints)); is = r.is }

right_leads : (n : ℕ) (m : Machine) (a : TwoAutomata) → IsMachine n m → Fits n m R a →
    (c : Config) → c.state < n → (k : ℕ) (d : Config) → from m k c ≡ Some d → next m d ≡ None → LeadsToHalt a R c
right_leads n m a machine fits c within k d is over q reads =
    let (j, reaches) = leads_from n m machine a fits k c d is over within q (reads_left a.delta c c.tape.head q reads) in
    (j, subst (λ w. Reaches a (At q c.state) w Halt) (sym (word_ahead c c.tape.head j)) reaches)

module _ (c d : Config) (like : Carried same_state back c d) where
  -- what is behind on the one side is behind on the other, in the mirror image
  read_turned : (delta : ℕ → Sym → ℕ) (x y : ℤ) (far : ℕ) → y ≡ back x → read_behind delta R d y far ≡ read_behind delta L c x far
  read_turned delta x y zero at = refl
  read_turned delta x y (suc far) at =
      let before : y -ℤ pos 1 ≡ back (x +ℤ pos 1) = omega (arith, ints) in
      ap (λ q. delta q (cell d (y -ℤ pos 1))) (read_turned delta (x +ℤ pos 1) (y -ℤ pos 1) far before) ∙
      ap (delta (read_behind delta L c (x +ℤ pos 1) far)) (ap (cell d) before ∙ like.cells (x +ℤ pos 1))

  reads_turned : (delta : ℕ → Sym → ℕ) (q : ℕ) → ReadsBehind delta L c c.tape.head q → ReadsBehind delta R d d.tape.head q
  reads_turned delta q r =
      let head : d.tape.head ≡ back c.tape.head = like.head in
      record {
        far = r.far;
        zeros = λ y beyond. let same : y ≡ back (back y) = omega (arith, ints) in ap (cell d) same ∙ like.cells (back y) ∙ r.zeros (back y) (omega (arith, ints));
        is = r.is ∙ sym (read_turned delta c.tape.head d.tape.head r.far head);
      }

  symbols_turned : (x y : ℤ) (k : ℕ) → y ≡ back x → symbols_ahead R d y k ≡ symbols_ahead L c x k
  symbols_turned x y zero at = refl
  symbols_turned x y (suc k) at =
      let next_at : y +ℤ pos 1 ≡ back (x -ℤ pos 1) = omega (arith, ints) in
      ap (λ s. s ∷ symbols_ahead R d (y +ℤ pos 1) k) (ap (cell d) at ∙ like.cells x) ∙ ap (λ w. cell c x ∷ w) (symbols_turned (x -ℤ pos 1) (y +ℤ pos 1) k next_at)

left_leads : (n : ℕ) (m : Machine) (a : TwoAutomata) → IsMachine n m → Fits n m L a →
    (c : Config) → c.state < n → (k : ℕ) (d : Config) → from m k c ≡ Some d → next m d ≡ None → LeadsToHalt a L c
left_leads n m a machine fits c within k d is over q reads =
    let like = turned_carried c in
    let (there, at, alike) = alike_at (Carried same_state back) m (mirrored m) (carried_step same_state back _ m (mirrored m) (mirror_renames m)) k c (turned c) d like is in
    let halts : next (mirrored m) there ≡ None = alike_none (Carried same_state back) (next (mirrored m) there)
    (subst (λ o. Alike (Carried same_state back) o (next (mirrored m) there)) over (carried_step same_state back _ m (mirrored m) (mirror_renames m) d there alike)) in
    let (j, reaches) = right_leads n (mirrored m) a (mirrored_machine n m machine) (fits_mirrored n m L a fits) (turned c)
    (subst (λ s. s < n) (sym like.state) within) k there at halts q (reads_turned c (turned c) like a.delta q reads) in (
      j,
      subst (λ w. Reaches a (At q c.state) w Halt) (symbols_turned c (turned c) like c.tape.head (turned c).tape.head j like.head)
          (subst (λ s. Reaches a (At q s) (symbols_ahead R (turned c) (turned c).tape.head j) Halt) like.state reaches),
    )

-- whichever side is ahead: a configuration of one of n states that comes to a halting pair leads to the halt state
pub automata_lead : (n : ℕ) (m : Machine) (side : Dir) (a : TwoAutomata) → IsMachine n m → Fits n m side a →
    (c : Config) → c.state < n → (k : ℕ) (d : Config) → from m k c ≡ Some d → next m d ≡ None → LeadsToHalt a side c
automata_lead n m R a machine fits = right_leads n m a machine fits
automata_lead n m L a machine fits = left_leads n m a machine fits

-- The certificates that have a side are mirror images of one another.

-- a machine is the mirror image of its mirror image
pub mirrored_mirrored : (m : Machine) → mirrored (mirrored m) ≡ m
mirrored_mirrored m = λ i q s. sym (mirrored_twice (m q s)) i

-- at each time the mirror image is there too, mirrored
mirror_at : (m : Machine) (k : ℕ) (c : Config) → after m k ≡ Some c → (d : Config) × (after (mirrored m) k ≡ Some d) × Carried same_state back c d
mirror_at m k c is =
    alike_at (Carried same_state back) m (mirrored m) (carried_step same_state back opposite m (mirrored m) (mirror_renames m)) k start start c
    (carried_start same_state back refl refl).carried is

beyond_back : (side : Dir) (b x y : ℤ) → y ≡ back x → Beyond side b x → Beyond (opposite side) (back b) y
beyond_back L b x y is beyond = omega (arith, ints)
beyond_back R b x y is beyond = omega (arith, ints)

back_beyond : (side : Dir) (b x : ℤ) → Beyond (opposite side) (back b) x → Beyond side b (back x)
back_beyond L b x beyond = omega (arith, ints)
back_beyond R b x beyond = omega (arith, ints)

mirrored_farthest : (m : Machine) (side : Dir) (i j : ℕ) (b : ℤ) → Farthest m side i j b → Farthest (mirrored m) (opposite side) i j (back b)
mirrored_farthest m side i j b f =
    let (there, is, like) = mirror_at m f.time f.there f.is in
    record {
      bound = λ k c low high at.
          let (d, at', like') = mirror_at (mirrored m) k c at in
          let head = like'.head in
          beyond_back side b d.tape.head c.tape.head (omega (arith, ints)) (f.bound k d low high (subst (λ p. after p k ≡ Some d) (mirrored_mirrored m) at'));
      time = f.time;
      low = f.low;
      high = f.high;
      there = there;
      is = is;
      reached = like.head ∙ ap back f.reached;
    }

-- a translated cycle is a translated cycle of the mirror image, to the other side
pub mirrored_translated : (m : Machine) (i j : ℕ) (side : Dir) → Translated m i j side → Translated (mirrored m) i j (opposite side)
mirrored_translated m i j side t =
    let (begin, begins, like) = mirror_at m i t.begin t.begins in
    let (end, ends, alike) = mirror_at m j t.end t.ends in
    let head = like.head in
    let end_head = alike.head in
    let shifted = t.shifted in
    record {
      order = t.order;
      begin = begin;
      end = end;
      begins = begins;
      ends = ends;
      state = like.state ∙ t.state ∙ sym alike.state;
      shift = back t.shift;
      shifted = omega (arith, ints);
      onward = beyond_back side (pos 0) t.shift (back t.shift) refl t.onward;
      bound = back t.bound;
      farthest = mirrored_farthest m side i j t.bound t.farthest;
      cells = λ x beyond.
          let same : x ≡ back (back x) = omega (arith, ints) in
          let moved : x +ℤ back t.shift ≡ back (back x +ℤ t.shift) = omega (arith, ints) in
          ap (cell begin) same ∙ like.cells (back x) ∙ t.cells (back x) (back_beyond side t.bound x beyond) ∙ sym (alike.cells (back x +ℤ t.shift)) ∙ ap (cell end) (sym moved);
    }

pub translated_mirrored : (m : Machine) (i j : ℕ) (side : Dir) → Translated (mirrored m) i j (opposite side) → Translated m i j side
translated_mirrored m i j side t =
    subst (λ p. Translated p i j side) (mirrored_mirrored m)
    (subst (Translated (mirrored (mirrored m)) i j) (opposite_twice side) (mirrored_translated (mirrored m) i j (opposite side) t))

-- automata that fit the mirror image fit the machine, with the other side ahead
pub mirror_image_fits : (n : ℕ) (m : Machine) (side : Dir) (a : TwoAutomata) → Fits n (mirrored m) (opposite side) a → Fits n m side a
mirror_image_fits n m side a fits =
    subst (λ p. Fits n p side a) (mirrored_mirrored m)
    (subst (λ f. Fits n (mirrored (mirrored m)) f a) (opposite_twice side) (fits_mirrored n (mirrored m) (opposite side) a fits))
