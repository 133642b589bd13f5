-- A list of numbers goes with a binary counter v that counts up (Up) or down (Down), by ticks. A tick takes one from
-- the first group and adds one to the number behind the first odd one, the first group among them. Where the numbers
-- have the parities of G(v), that is just what G(v) does from v to v + 1, or what 2 f - G(v) does from v to v - 1. So
-- lists need no rule of their own: the ticks of the machine are proved by induction on the digits of v.
--
-- The even numbers that C goes over must not be zero. Numbers only grow, so it is enough that they were not so at the
-- beginning.
use Rattle.std.proofs.Common.{◌≡◌, ℕ, zero, suc, ◌+◌, ◌*◌, ◌≤◌, List, [], ◌∷◌, ap, subst, arith}
use Rattle.machine_text.specs.declared.table.Sym.{Sym}
use Rattle.machine_text.specs.declared.table.Sym.TheVariants.{Zero, One}
use Rattle.law_machines.specs.Zipper.{Comes, Goes, repeat}
use Rattle.law_machines.proofs.RuleLaws.{same, ◌⨾◌}
use Rattle.law_machines.proofs.DigitLists.{oi, twice, bit, val, full, val_below}
use Rattle.law_machines.proofs.Skelet17.Gray.{inc, dec, ones, inc_val, inc_full, dec_val, dec_full, ones_val, same_digits}
use Rattle.law_machines.proofs.Skelet17.Groups.{m, tail, groups, Visits, over_odd, over_even, over_end, tick_drop, at_odd, at_even, odd_half, even_half, some_half}

-- each number x is 2 e + G(v) - 2 G(w), for the counter's digits v, and those w where it began; and it isn't zero where
-- G(v) isn't
pub data Up : List Sym → List Sym → List ℕ → List ℕ → Type 0 where
  up_none : Up [] [] [] []
  up_more : {d u : Sym} {v w : List Sym} {e x : ℕ} {es xs : List ℕ} →
      x + 2 * (bit u + val w) ≡ 2 * e + (bit d + val v) → (1 ≤ bit d + val v → 1 ≤ x) → Up v w es xs →
      Up (d ∷ v) (u ∷ w) (e ∷ es) (x ∷ xs)

abbrev pub slack : ℕ → List Sym → ℕ
slack z [] = z
slack z (d ∷ l) = 0

-- each number x is 2 f - G(v) - 2 G(w), and isn't zero, but for the last one where z is one
pub data Down (z : ℕ) : List Sym → List Sym → List ℕ → List ℕ → Type 0 where
  down_none : Down z [] [] [] []
  down_more : {d u : Sym} {v w : List Sym} {f x : ℕ} {fs xs : List ℕ} →
      (x + 2 * (bit u + val w)) + (bit d + val v) ≡ 2 * f → 1 ≤ x + slack z v → Down z v w fs xs →
      Down z (d ∷ v) (u ∷ w) (f ∷ fs) (x ∷ xs)

-- C's way to the number that is to grow
pub up_visit : (l : List Sym) {w : List Sym} {es xs : List ℕ} → Up (One ∷ l) w es xs → val l + 2 ≤ full l →
    (c : ℕ) × (r : List ℕ) × ((x : List Sym) → Visits (tail xs x) (repeat oi c (tail r x)))
    × Up (Zero ∷ inc l) w es (suc c ∷ r)
up_visit [] h free = absurd (omega arith)
up_visit (Zero ∷ l) (up_more {u = u} {w = w} {e = e} {x = a} q p (up_more {x = b} {xs = xs} q2 p2 t)) free =
    let (j, odd) = odd_half a (bit u + val w) (e + val l) (omega arith) in (
      twice j,
      suc b ∷ xs,
      λ x. over_odd a j odd (repeat oi b (tail xs x)),
      up_more (omega arith) (λ _. omega arith) (up_more (omega arith) (λ _. omega arith) t),
    )
up_visit (One ∷ l) (up_more {u = u} {w = w} {e = e} {x = a} {xs = xs} q p t) free =
    let room : val l + 2 ≤ full l = omega arith in
    let (c, r, go, up) = up_visit l t room in
    let (j, even) = some_half a (bit u + val w) (e + (1 + val l)) (omega arith) (p (omega arith)) in (
      suc (twice j),
      suc c ∷ r,
      λ x. over_even a j even (tail xs x) (repeat oi c (tail r x)) (go x),
      up_more (omega (arith, inc_val l room)) (λ _. omega arith) up,
    )

up_tick : (a h : ℕ) (v : List Sym) {w : List Sym} {es xs : List ℕ} → Up v w es xs → suc a + val v ≡ 1 + 2 * h →
    val v + 2 ≤ full v →
    (ys : List ℕ) × Up (inc v) w es ys × ((x : List Sym) → Comes m (groups (suc a) xs x) (groups a ys x))
up_tick a h [] t odd free = absurd (omega arith)
up_tick a h (Zero ∷ l) (up_more {x = b} {xs = xs} q p t) odd free =
    let (j, is) = odd_half (suc a) (val l) h (omega arith) in
    (suc b ∷ xs, up_more (omega arith) (λ _. omega arith) t, λ x. at_odd a j b xs x is)
up_tick a h (One ∷ l) {xs = xs} t odd free =
    let (j, is) = some_half (suc a) (val l) h (omega arith) (omega arith) in
    let (c, r, go, up) = up_visit l t (omega arith) in
    (suc c ∷ r, up, λ x. at_even a j c xs r x x is (go x))

-- so many ticks
pub up_ticks : (k n a h : ℕ) (v v' : List Sym) {w : List Sym} {es xs : List ℕ} → Up v w es xs → n ≡ k + a →
    k + val v ≡ val v' → full v ≡ full v' → a + val v' ≡ 1 + 2 * h →
    (ys : List ℕ) × Up v' w es ys × ((x : List Sym) → Comes m (groups n xs x) (groups a ys x))
up_ticks zero n a h v v' {w = w} {es = es} {xs = xs} t count to long odd =
    let p : n ≡ a = omega arith in
    (xs, subst (λ u. Up u w es xs) (same_digits v v' long (omega arith)) t, λ x. same m (ap (λ i. groups i xs x) p))
up_ticks (suc k) zero a h v v' t count to long odd = absurd (omega arith)
up_ticks (suc k) (suc n) a h v v' t count to long odd =
    let room : val v + 2 ≤ full v = omega (arith, val_below v') in
    let (ys, up, go) = up_tick n h v t (omega arith) room in
    let (zs, ups, goes) = up_ticks k n a h (inc v) v' up (omega arith) (omega (arith, inc_val v room))
    (omega (arith, inc_full v)) odd in
    (zs, ups, λ x. go x ⨾ goes x)

-- the first group is used up, and the next takes its place
pub up_drop : (l : List Sym) {w : List Sym} {es xs : List ℕ} → Up (One ∷ l) w es xs → val l + 2 ≤ full l →
    (c : ℕ) × (r : List ℕ) × Up (Zero ∷ inc l) w es (suc c ∷ r)
    × ((x : List Sym) → Goes m (groups 0 xs x) (groups (suc c) r x))
up_drop l {xs = xs} t free =
    let (c, r, go, up) = up_visit l t free in
    (c, r, up, λ x. tick_drop xs x (repeat oi c (tail r x)) (go x))

pub down_visit : (z : ℕ) (l : List Sym) {w : List Sym} {fs xs : List ℕ} → Down z (Zero ∷ l) w fs xs → 1 ≤ val l →
    (c : ℕ) × (r : List ℕ) × ((x : List Sym) → Visits (tail xs x) (repeat oi c (tail r x)))
    × Down z (One ∷ dec l) w fs (suc c ∷ r)
down_visit z [] h some = absurd (omega arith)
down_visit z (One ∷ l) (down_more {u = u} {w = w} {f = f} {x = a} q p (down_more {x = b} {xs = xs} q2 p2 t)) some =
    let (j, odd) = odd_half a ((bit u + val w) + (val l + 1)) f (omega arith) in (
      twice j,
      suc b ∷ xs,
      λ x. over_odd a j odd (repeat oi b (tail xs x)),
      down_more (omega arith) (omega arith) (down_more (omega arith) (omega arith) t),
    )
down_visit z (Zero ∷ l) (down_more {u = u} {w = w} {f = f} {x = a} {xs = xs} q p t) some =
    let more : 1 ≤ val l = omega arith in
    let (c, r, go, down) = down_visit z l t more in
    let (j, even) = some_half a ((bit u + val w) + val l) f (omega arith) (omega arith) in (
      suc (twice j),
      suc c ∷ r,
      λ x. over_even a j even (tail xs x) (repeat oi c (tail r x)) (go x),
      down_more (omega (arith, dec_val l more)) (omega arith) down,
    )

down_tick : (z a h : ℕ) (v : List Sym) {w : List Sym} {fs xs : List ℕ} → Down z v w fs xs → suc a + val v ≡ 2 * h →
    1 ≤ val v →
    (ys : List ℕ) × Down z (dec v) w fs ys × ((x : List Sym) → Comes m (groups (suc a) xs x) (groups a ys x))
down_tick z a h [] t even some = absurd (omega arith)
down_tick z a h (One ∷ l) (down_more {x = b} {xs = xs} q p t) even some =
    let (j, is) = odd_half (suc a) (val l + 1) h (omega arith) in
    (suc b ∷ xs, down_more (omega arith) (omega arith) t, λ x. at_odd a j b xs x is)
down_tick z a h (Zero ∷ l) {xs = xs} t even some =
    let (j, is) = some_half (suc a) (val l) h (omega arith) (omega arith) in
    let (c, r, go, down) = down_visit z l t (omega arith) in
    (suc c ∷ r, down, λ x. at_even a j c xs r x x is (go x))

pub down_ticks : (z k n a h : ℕ) (v v' : List Sym) {w : List Sym} {fs xs : List ℕ} → Down z v w fs xs → n ≡ k + a →
    k + val v' ≡ val v → full v ≡ full v' → a + val v' ≡ 2 * h →
    (ys : List ℕ) × Down z v' w fs ys × ((x : List Sym) → Comes m (groups n xs x) (groups a ys x))
down_ticks z zero n a h v v' {w = w} {fs = fs} {xs = xs} t count to long even =
    let p : n ≡ a = omega arith in
    (xs, subst (λ u. Down z u w fs xs) (same_digits v v' long (omega arith)) t, λ x. same m (ap (λ i. groups i xs x) p))
down_ticks z (suc k) zero a h v v' t count to long even = absurd (omega arith)
down_ticks z (suc k) (suc n) a h v v' t count to long even =
    let some : 1 ≤ val v = omega arith in
    let (ys, down, go) = down_tick z n (h + suc k) v t (omega arith) some in
    let (zs, downs, goes) = down_ticks z k n a h (dec v) v' down (omega arith) (omega (arith, dec_val v some))
    (omega (arith, dec_full v)) even in
    (zs, downs, λ x. go x ⨾ goes x)

pub down_drop : (z : ℕ) (l : List Sym) {w : List Sym} {fs xs : List ℕ} → Down z (Zero ∷ l) w fs xs → 1 ≤ val l →
    (c : ℕ) × (r : List ℕ) × Down z (One ∷ dec l) w fs (suc c ∷ r)
    × ((x : List Sym) → Goes m (groups 0 xs x) (groups (suc c) r x))
down_drop z l {xs = xs} t some =
    let (c, r, go, down) = down_visit z l t some in
    (c, r, down, λ x. tick_drop xs x (repeat oi c (tail r x)) (go x))

-- half the power of two that the length is the exponent of
abbrev pub half_power : List Sym → ℕ
half_power [] = 1
half_power (d ∷ l) = full l

abbrev pub raise : List Sym → List ℕ → List ℕ
raise [] fs = []
raise (d ∷ l) [] = []
raise (d ∷ l) (f ∷ fs) = (f + half_power l) ∷ raise l fs

-- at zero all numbers are even, and the list grows by two
pub over_visit : (d : Sym) (l : List Sym) {w : List Sym} {fs xs : List ℕ} → Down 1 (d ∷ l) w fs xs → val (d ∷ l) ≡ 0 →
    (c : ℕ) × (r : List ℕ) × Visits (tail xs []) (repeat oi c (tail r (One ∷ One ∷ [])))
    × Down 0 (ones (d ∷ l)) w (raise (d ∷ l) fs) (suc c ∷ r)
over_visit d [] (down_more {u = u} {f = f} {x = a} q p down_none) nil =
    let (j, even) = even_half a (bit u) f (omega arith) in
    (twice j, [], over_end a j even, down_more (omega arith) (omega arith) down_none)
over_visit d (e ∷ l) (down_more {u = u} {w = w} {f = f} {x = a} {xs = xs} q p t) nil =
    let (c, r, go, down) = over_visit e l t (omega arith) in
    let (j, even) = some_half a (bit u + val w) f (omega arith) (omega arith) in (
      suc (twice j),
      suc c ∷ r,
      over_even a j even (tail xs []) (repeat oi c (tail r (One ∷ One ∷ []))) go,
      down_more (omega (arith, ones_val (e ∷ l))) (omega arith) down,
    )
