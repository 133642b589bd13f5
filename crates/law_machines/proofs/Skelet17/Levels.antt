-- Skelet 17 never halts: the lists that its run comes to again and again.
--
-- A level has an odd number n of numbers B_1, .., B_n, of which B_1 has n digits, and a counter w with n - 1 digits.
-- Where a round begins, the tape has the list
--
--     2 B_1 - 1 - w; 2 B_2 - G_0(w), 2 B_3 - G_1(w), .., 2 B_n - G_(n - 2)(w), 0, 0
--
-- and the numbers obey these equations, the balance, but for one chip: a chip at k adds one on the left of the equation
-- for B_k, and a chip on w adds one on the right of the one for w. B_k is 0 beyond n, and for k = n the power is 1.
--
--     B_k + G_k(w) = B_(k + 2) + G_(k - 1)(B_1) + 2^(n - 1 - k)          k = 1, .., n
--     floor(w / 2) + B_2 + 1 = 2^(n - 1)
--
-- A round makes of the left sides the right ones, so it adds the chip to its number, or takes it from w. The cases:
--
--     later   the chip is on a number from the second on      the next chip is two places lower
--     falls   it is on w, which is at least 2                 w falls by one; the next chip is where G(w) changes
--     grows   it is on the first number                       that grows by one; the next chip is where G(B_1) changes
--     ends    the same, and the first number becomes 2^n      w is 1, the counter goes up to ones alone, and a level of
--                                                             n + 2 numbers begins
--
-- That a level ends isn't needed. The first list, 4; 2, 1, 0, 0, is that of the level 3 with the numbers 4, 2, 1 and
-- w = 3, and the chip on the third number; the run comes to it in 239 steps.
use Rattle.std.proofs.Common.{◌≡◌, ℕ, suc, ◌+◌, ◌*◌, ◌≤◌, List, [], ◌∷◌, ◌++◌, inl, inr, ap, subst, refl, arith}
use Rattle.machine_text.specs.declared.table.Sym.{Sym}
use Rattle.machine_text.specs.declared.table.Sym.TheVariants.{Zero, One}
use Rattle.machine_text.specs.Terms.{entry_of}
use Rattle.law_turing.specs.Terms.{Never}
use Rattle.law_machines.specs.Zipper.{Zipper, blank_zipper, steps, Goes, repeat}
use Rattle.law_machines.proofs.RuleLaws.{run, never_by_rules}
use Rattle.law_machines.proofs.DigitLists.{oi, ii, twice, bit, val, full, full_pos, val_below}
use Rattle.law_machines.proofs.Skelet17.Gray.{inc, dec, inc_val, inc_full, dec_val, dec_full, wide, wide_val, wide_full, bit_top, pad_val, pad_full}
use Rattle.law_machines.proofs.Skelet17.Groups.{skelet17, m, tail, groups, Visits, over_even, over_top, odd_half, some_half, tick_drop}
use Rattle.law_machines.proofs.Skelet17.Phases.{Up, up_none, up_more, up_ticks}
use Rattle.law_machines.proofs.Skelet17.Rounds.{plus, Rest, rest_none, rest_more, Balance, balanced, balance, Zeros, no_more, zero_more, begin_up, goes_on, used_up, round}
use Rattle.law_machines.proofs.Skelet17.Chips.{Hot, hot, cold, hot_pad, paid, shift, up_chip, down_chip, wide_dec, OddLength, single, double, odd_inc, odd_grow, not_low, is_low, below_top}

-- Where a round begins. The chip that it will add is on w (c is one) or on one of the numbers (one item of cs is). The
-- tape has the groups a and xs and two empty ones; u and w are the digits of the counter, b1, b2 and bs the numbers,
-- and y the digits of b1.
record Level (c : ℕ) (cs : List ℕ) : Type 0 where
  a : ℕ
  xs : List ℕ
  u : Sym
  w : List Sym
  y : List Sym
  b1 : ℕ
  b2 : ℕ
  bs : List ℕ
  rest : Rest (u ∷ w) (b2 ∷ bs) xs
  bal : Balance cs (b1 ∷ b2 ∷ bs) (bs ++ 0 ∷ 0 ∷ []) (wide w) y
  first : b1 ≡ val y
  low : (val w + b2) + 1 ≡ full (u ∷ w) + c
  lead : (a + 1) + val (u ∷ w) ≡ 2 * val y
  big : full y ≤ 4 * val y + 2
  fit : full y ≡ 2 * full (u ∷ w)
  odd : OddLength y
  some : 1 ≤ val (u ∷ w)

record State : Type 0 where
  c : ℕ
  cs : List ℕ
  chip : Hot (c ∷ cs)
  level : Level c cs

abbrev place : {c : ℕ} {cs : List ℕ} → Level c cs → Zipper
place l = groups l.a l.xs ii

abbrev at : State → Zipper
at s = place s.level

abbrev Next : Zipper → Type 0
Next z = (t : State) × Goes m z (at t)

-- the chip is on a number from the second on
later : (d : ℕ) (ds : List ℕ) → Hot (d ∷ ds) → (l : Level 0 (0 ∷ d ∷ ds)) → Next (place l)
later d ds chip l =
    let (zs, z, pay) = paid l.bal in
    let (a, xs, go, rest, lead) = round l.a 0 l.u l.w (l.u ∷ l.w) l.y l.rest pay z l.low l.lead l.big l.fit
    (omega arith) refl in
    let low0 = l.low in
    let first0 = l.first in (
      record {
        c = d;
        cs = ds ++ 0 ∷ 0 ∷ [];
        chip = hot_pad chip;
        level = record {
          a = a;
          xs = xs;
          u = l.u;
          w = l.w;
          y = l.y;
          b1 = l.b1 + 0;
          b2 = l.b2 + d;
          bs = plus l.bs ds;
          rest = rest;
          bal = shift 0 d l.b1 l.b2 ds l.bs l.bal;
          first = omega arith;
          low = omega arith;
          lead = omega arith;
          big = l.big;
          fit = l.fit;
          odd = l.odd;
          some = l.some;
        };
      },
      go,
    )

-- the chip is on w
falls : (zs : List ℕ) → Zeros zs → (l : Level 1 zs) → Next (place l)
falls zs z l = go l.u refl
  where
    high : 1 ≤ val l.w
    high = not_low l.b1 l.b2 l.u l.w l.y l.bal z l.odd l.low l.fit

    go : (u : Sym) → l.u ≡ u → Next (place l)
    go One is =
        let v : val (l.u ∷ l.w) ≡ val (One ∷ l.w) = ap (λ u. val (u ∷ l.w)) is in
        let (a, xs, goes, rest, lead) = round l.a 1 l.u l.w (Zero ∷ l.w) l.y l.rest l.bal z l.low l.lead l.big l.fit
        (omega arith) refl in
        let first0 = l.first in (
          record {
            c = 1;
            cs = zs;
            chip = hot z;
            level = record {
              a = a;
              xs = xs;
              u = Zero;
              w = l.w;
              y = l.y;
              b1 = l.b1;
              b2 = l.b2;
              bs = l.bs;
              rest = rest;
              bal = l.bal;
              first = l.first;
              low = l.low;
              lead = omega arith;
              big = l.big;
              fit = l.fit;
              odd = l.odd;
              some = omega (arith, high);
            };
          },
          goes,
        )
    go Zero is =
        let v : val (l.u ∷ l.w) ≡ val (Zero ∷ l.w) = ap (λ u. val (u ∷ l.w)) is in
        let (a, xs, goes, rest, lead) =
        round l.a 1 l.u l.w (One ∷ dec l.w) l.y l.rest l.bal z l.low l.lead l.big l.fit
        (omega (arith, dec_val l.w high)) (omega (arith, dec_full l.w)) in
        let (cs, chip, bal) = down_chip (wide l.w) l.bal z (omega (arith, wide_val l.w, high)) in
        let first0 = l.first in
        let low0 = l.low in
        let fit0 = l.fit in (
          record {
            c = 0;
            cs = cs;
            chip = cold chip;
            level = record {
              a = a;
              xs = xs;
              u = One;
              w = dec l.w;
              y = l.y;
              b1 = l.b1;
              b2 = l.b2;
              bs = l.bs;
              rest = rest;
              bal = subst (λ w. Balance cs (l.b1 ∷ l.b2 ∷ l.bs) (l.bs ++ 0 ∷ 0 ∷ []) w l.y) (wide_dec l.w high) bal;
              first = l.first;
              low = omega (arith, dec_val l.w high, dec_full l.w);
              lead = omega arith;
              big = l.big;
              fit = omega (arith, dec_full l.w);
              odd = l.odd;
              some = omega arith;
            };
          },
          goes,
        )

-- the first number grows by one
grown : {zs bs es : List ℕ} {b : ℕ} {w y : List Sym} → Balance (1 ∷ zs) (b ∷ bs) es w y →
    Balance (0 ∷ zs) (suc b ∷ bs) es w y
grown (balance q t) = balance (omega arith) t

-- and the level goes on
grows : (zs : List ℕ) → Zeros zs → (l : Level 0 (1 ∷ zs)) → val l.y + 2 ≤ full l.y → Next (place l)
grows zs z l free =
    let (a, xs, go, rest, lead) = round l.a 0 l.u l.w (l.u ∷ l.w) l.y l.rest (grown l.bal)
    (zero_more z) l.low l.lead l.big l.fit (omega arith) refl in
    let (cs, chip, bal) = up_chip l.y (grown l.bal) (zero_more z) free in
    let first0 = l.first in
    let big0 = l.big in
    let fit0 = l.fit in
    let more : val (inc l.y) ≡ suc (val l.y) = inc_val l.y free in (
      record {
        c = 0;
        cs = cs;
        chip = cold chip;
        level = record {
          a = a;
          xs = xs;
          u = l.u;
          w = l.w;
          y = inc l.y;
          b1 = suc l.b1;
          b2 = l.b2;
          bs = l.bs;
          rest = rest;
          bal = bal;
          first = omega arith;
          low = l.low;
          lead = omega arith;
          big = omega (arith, inc_full l.y);
          fit = omega (arith, inc_full l.y);
          odd = odd_inc l.odd;
          some = l.some;
        };
      },
      go,
    )

-- at the end of a level the counter goes up to ones alone, and the list grows by three
top_visit : (y : List Sym) {zs bs es xs : List ℕ} {w : List Sym} → Balance zs bs es w y → Zeros zs → Up y w es xs →
    val w ≡ 0 → val y + 1 ≡ full y → 1 ≤ val y →
    (c : ℕ) × (r : List ℕ) × Visits (tail xs []) (repeat oi c (tail r ii)) × Rest (One ∷ y) (bs ++ 1 ∷ []) (suc c ∷ r)
top_visit [] t z up nil end some = absurd (omega arith)
top_visit (d ∷ []) (balance {e = e} {u = u} q balanced) (zero_more z) (up_more {x = a} q2 p2 up_none) nil end some =
    let (j, odd) = odd_half a (bit u) e (omega arith) in (
      suc (twice j),
      1 ∷ [],
      over_top a j odd,
      rest_more (omega arith) (omega arith)
          (rest_more (omega arith) (omega arith) rest_none),
    )
top_visit (Zero ∷ f ∷ l) t z up nil end some = absurd (omega arith)
top_visit (One ∷ f ∷ l) (balance {e = e} {u = u} {w = w} q t) (zero_more z)
    (up_more {x = a} {xs = xs} q2 p2 up) nil end some =
    let full1 : val (f ∷ l) + 1 ≡ full (f ∷ l) = omega arith in
    let (c, r, go, rest) = top_visit (f ∷ l) t z up (omega arith) full1 (omega (arith, full_pos l)) in
    let (j, even) = some_half a (bit u + val w) (e + full l) (omega arith) (p2 (omega arith)) in (
      suc (twice j),
      suc c ∷ r,
      over_even a j even (tail xs []) (repeat oi c (tail r ii)) go,
      rest_more {x = suc (suc (twice j))} {xs = suc c ∷ r} (omega arith) (omega arith) rest,
    )

top_drop : (k : ℕ) (y : List Sym) {zs bs es ys : List ℕ} {b : ℕ} {u : Sym} {w : List Sym} → Balance zs bs es w y →
    Zeros zs → Up (One ∷ y) (u ∷ w) (b ∷ es) ys →
    val w ≡ 0 → val y + 1 ≡ full y → 1 ≤ val y → full y ≡ 2 * k →
    (x : ℕ) × (c : ℕ) × (r : List ℕ) × Goes m (groups 0 ys []) (groups x (suc c ∷ r) ii)
    × Rest (One ∷ y) (bs ++ 1 ∷ []) (suc c ∷ r) × (x + 2 * (bit u + val w) ≡ 2 * b + full y)
top_drop k y {b = b} {u = u} {w = w} t z (up_more {x = a} {xs = xs} q p up) nil end some fit =
    let (c, r, go, rest) = top_visit y t z up nil end some in
    let (j, even) = some_half a (bit u + val w) (b + k) (omega arith) (p (omega arith)) in (
      twice (suc j),
      c,
      r,
      tick_drop (a ∷ xs) [] (repeat oi (suc (twice j)) (One ∷ oi ++ repeat oi c (tail r ii)))
          (over_even a j even (tail xs []) (repeat oi c (tail r ii)) go),
      rest,
      omega arith,
    )

-- the balance of the next level
no_balance : {cs bs es : List ℕ} {b : ℕ} {w : List Sym} → Balance cs (b ∷ bs) es w [] → ⊥
no_balance t = elim t [ ]

fresh : (bs : List ℕ) (b b2 : ℕ) (d : Sym) (y : List Sym) {zs : List ℕ} {w : List Sym} →
    Balance zs (b ∷ b2 ∷ bs) (bs ++ 0 ∷ 0 ∷ []) w (d ∷ y) → Zeros zs → val w ≡ 0 → val (d ∷ y) + 1 ≡ full (d ∷ y) →
    (cs : List ℕ) × Hot cs × Balance cs ((b ∷ b2 ∷ bs) ++ 1 ∷ []) ((bs ++ 1 ∷ []) ++ 0 ∷ 0 ∷ []) (wide y)
    ((d ∷ y) ++ Zero ∷ [])
fresh [] b b2 d y (balance q (balance {d = f} q2 balanced)) (zero_more (zero_more z)) nil end = (
  1 ∷ 0 ∷ 0 ∷ [],
  hot (zero_more (zero_more no_more)),
  balance (omega (arith, bit_top d, bit_top f)) (balance (omega (arith, bit_top d, bit_top f)) (balance refl balanced)),
)
fresh (e ∷ bs) b b2 d [] (balance q t) z nil end = absurd (no_balance t)
fresh (e ∷ bs) b b2 d (f ∷ l) (balance q t) (zero_more z) nil end =
    let full1 : val (f ∷ l) + 1 ≡ full (f ∷ l) = omega (arith, bit_top d, val_below l, bit_top f) in
    let (cs, h, s) = fresh bs b2 e f l t z (omega arith) full1 in
    (0 ∷ cs, cold h, balance (omega (arith, bit_top d, bit_top f, val_below l, wide_val l, pad_val l, pad_full l)) s)

fresh_all : (k n b b2 : ℕ) (bs : List ℕ) (y : List Sym) {zs : List ℕ} {w : List Sym} →
    Balance zs (b ∷ b2 ∷ bs) (bs ++ 0 ∷ 0 ∷ []) w y → Zeros zs → val w ≡ 0 →
    val y + 1 ≡ full y → full y ≡ 2 * k → b2 + 1 ≡ k → n ≡ 2 * val y →
    (cs : List ℕ) × Hot cs × Balance (0 ∷ cs) (n ∷ (b ∷ b2 ∷ bs) ++ 1 ∷ []) ((b2 ∷ bs ++ 1 ∷ []) ++ 0 ∷ 0 ∷ []) (wide y)
    (Zero ∷ (y ++ Zero ∷ []))
fresh_all k n b b2 bs [] t z nil end fit is so = absurd (omega arith)
fresh_all k n b b2 bs (d ∷ y) t z nil end fit is so =
    let (cs, h, s) = fresh bs b b2 d y t z nil end in
    (cs, h, balance (omega (arith, bit_top d, val_below y, wide_val y, pad_val y, pad_full y)) s)

-- the first number is a power of two
ends : (zs : List ℕ) → Zeros zs → (l : Level 0 (1 ∷ zs)) → val l.y + 1 ≡ full l.y → Next (place l)
ends zs z l end =
    let nil : val l.w ≡ 0 = is_low l.b1 l.b2 l.u l.w l.y l.bal z l.odd l.low l.fit end in
    let low0 = l.low in
    let fit0 = l.fit in
    let first0 = l.first in
    let some0 = l.some in
    let one : bit l.u ≡ 1 = omega (arith, bit_top l.u) in
    let wide_nil : val (wide l.w) ≡ 0 = omega (arith, wide_val l.w) in
    let (a, xs, go, rest, lead) = round l.a 0 l.u l.w (l.u ∷ l.w) l.y l.rest (grown l.bal)
    (zero_more z) l.low l.lead l.big l.fit (omega arith) refl in
    let (ys, up, goes) = up_ticks a a 0 (val l.y) (l.u ∷ wide l.w) (One ∷ l.y) {xs = xs ++ 0 ∷ 0 ∷ []}
    (begin_up {xs = xs} rest) (omega arith)
    (omega arith) (omega (arith, wide_full l.w)) (omega arith) in
    let (x, c, r, drops, rests, lead2) = top_drop (full (l.u ∷ l.w)) l.y {ys = ys} (grown l.bal)
    (zero_more z) up wide_nil end
    (omega (arith, full_pos l.w)) l.fit in
    let (cs, h, bal) = fresh_all (full (l.u ∷ l.w)) (2 * val l.y) (suc l.b1) l.b2 l.bs l.y (grown l.bal)
    (zero_more z) wide_nil end l.fit (omega arith) refl in (
      record {
        c = 0;
        cs = 0 ∷ cs;
        chip = cold {l = 0 ∷ cs} (cold {l = cs} h);
        level = record {
          a = x;
          xs = suc c ∷ r;
          u = One;
          w = l.y;
          y = Zero ∷ (l.y ++ Zero ∷ []);
          b1 = 2 * val l.y;
          b2 = suc l.b1;
          bs = l.b2 ∷ (l.bs ++ 1 ∷ []);
          rest = rests;
          bal = bal;
          first = omega (arith, pad_val l.y);
          low = omega arith;
          lead = omega (arith, pad_val l.y);
          big = omega (arith, pad_val l.y, pad_full l.y, full_pos l.w);
          fit = omega (arith, pad_full l.y);
          odd = odd_grow Zero l.odd;
          some = omega arith;
        };
      },
      goes_on (place l) (groups a xs ii) (groups 0 ys []) (groups x (suc c ∷ r) ii) go (used_up a xs ys goes) drops,
    )

onward : {c : ℕ} {cs : List ℕ} → Hot (c ∷ cs) → (l : Level c cs) → Next (place l)
onward (hot {l = zs} z) l = falls zs z l
onward (cold (hot {l = zs} z)) l = elim (below_top l.y) [ inl free ↦ grows zs z l free | inr end ↦ ends zs z l end ]
onward (cold (cold (hot {l = ds} z))) l = later 1 ds (hot z) l
onward (cold (cold (cold {l = ds} h))) l = later 0 ds (cold h) l

begin : State
begin = record {
  c = 0;
  cs = 0 ∷ 0 ∷ 1 ∷ [];
  chip = cold (cold (cold (hot no_more)));
  level = record {
    a = 4;
    xs = 2 ∷ 1 ∷ [];
    u = One;
    w = One ∷ [];
    y = Zero ∷ Zero ∷ One ∷ [];
    b1 = 4;
    b2 = 2;
    bs = 1 ∷ [];
    rest = rest_more refl (omega arith) (rest_more refl (omega arith) rest_none);
    bal = balance refl (balance refl (balance refl balanced));
    first = refl;
    low = refl;
    lead = refl;
    big = omega arith;
    fit = refl;
    odd = double single;
    some = omega arith;
  };
}

pub skelet17_never : Never (entry_of skelet17)
unfolding entry_of steps begin
skelet17_never = never_by_rules m State at begin (run m 239 blank_zipper (groups 4 (2 ∷ 1 ∷ []) ii) refl)
    (λ s. onward s.chip s.level)
