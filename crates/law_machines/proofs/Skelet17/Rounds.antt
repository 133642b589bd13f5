-- A round begins with a group a, groups x1, x2, .. and two empty ones, where a + 1 + w = 2 y and each x is 2 b - G(w)
-- (Rest), for digits w and y. First the counter goes up from w to 2 y, which uses up a; the next number takes its
-- place. Then it goes down from y to zero, where all numbers are even and the list grows by two; and then down from
-- ones alone, until the first group is used up. What is left is such a list again, for the numbers that Balance tells.
use Rattle.std.proofs.Common.{◌≡◌, ℕ, zero, suc, ◌+◌, ◌-◌, ◌*◌, ◌≤◌, List, [], ◌∷◌, ◌++◌, ap, subst, refl, arith}
use Rattle.machine_text.specs.declared.table.Sym.{Sym}
use Rattle.machine_text.specs.declared.table.Sym.TheVariants.{Zero, One}
use Rattle.law_machines.specs.Zipper.{Zipper, AtRight, Comes, Goes, repeat}
use Rattle.law_machines.proofs.RuleLaws.{same, ◌⨾◌, ◌⨾⁺◌, ◌⁺⨾◌, weakened}
use Rattle.law_machines.proofs.DigitLists.{oi, ii, twice, twice_is, bit, val, full, full_pos, val_below}
use Rattle.law_machines.proofs.Skelet17.Gray.{inc, dec, ones, inc_val, inc_full, dec_val, dec_full, ones_val, ones_full, same_digits, grays, wide, zeros, wide_val, wide_full, zeros_val, zeros_full, bit_top}
use Rattle.law_machines.proofs.Skelet17.Groups.{m, tail, groups, tick_drop, at_even}
use Rattle.law_machines.proofs.Skelet17.Phases.{Up, up_none, up_more, slack, Down, down_none, down_more, up_ticks, up_drop, down_ticks, down_drop, half_power, raise, over_visit}

abbrev pub plus : List ℕ → List ℕ → List ℕ
plus [] k = []
plus (a ∷ l) [] = []
plus (a ∷ l) (b ∷ k) = (a + b) ∷ plus l k

zeros_half_power : (l : List Sym) → half_power (zeros l) ≡ half_power l
zeros_half_power [] = refl
zeros_half_power (d ∷ l) = zeros_full l

slack_none : (l : List Sym) → slack 0 l ≡ 0
slack_none [] = refl
slack_none (d ∷ l) = refl

-- the groups where a round begins and ends: each number x is 2 b - G(w), and not zero
pub data Rest : List Sym → List ℕ → List ℕ → Type 0 where
  rest_none : Rest [] [] []
  rest_more : {d : Sym} {v : List Sym} {b x : ℕ} {bs xs : List ℕ} → x + (bit d + val v) ≡ 2 * b → 1 ≤ x → Rest v bs xs →
      Rest (d ∷ v) (b ∷ bs) (x ∷ xs)

-- what a round makes of the numbers b, for the digits y of the first one: from e, the number two places further on, it
-- makes e + G(y) + (half a power of two) - G(w), which is to be b + c
pub data Balance : List ℕ → List ℕ → List ℕ → List Sym → List Sym → Type 0 where
  balanced : Balance [] [] [] [] []
  balance : {c b e : ℕ} {u d : Sym} {cs bs es : List ℕ} {w y : List Sym} →
      (b + c) + (bit u + val w) ≡ (e + (bit d + val y)) + half_power y → Balance cs bs es w y →
      Balance (c ∷ cs) (b ∷ bs) (e ∷ es) (u ∷ w) (d ∷ y)

pub data Zeros : List ℕ → Type 0 where
  no_more : Zeros []
  zero_more : {l : List ℕ} → Zeros l → Zeros (0 ∷ l)

pub begin_up : {w : List Sym} {bs xs : List ℕ} → Rest w bs xs →
    Up (wide w) (wide w) (bs ++ 0 ∷ 0 ∷ []) (xs ++ 0 ∷ 0 ∷ [])
begin_up rest_none = up_more refl (λ p. p) (up_more refl (λ p. p) up_none)
begin_up (rest_more {v = v} q p t) = up_more (omega (arith, wide_val v)) (λ _. p) (begin_up t)

tail_wide : (xs : List ℕ) → tail xs ii ≡ tail (xs ++ 0 ∷ 0 ∷ []) []
tail_wide [] = refl
tail_wide (a ∷ xs) = ap (λ l. One ∷ repeat oi a l) (tail_wide xs)

pub up_first : {d u : Sym} {v w : List Sym} {e x : ℕ} {es xs : List ℕ} → Up (d ∷ v) (u ∷ w) (e ∷ es) (x ∷ xs) →
    (x + 2 * (bit u + val w) ≡ 2 * e + (bit d + val v)) × (1 ≤ bit d + val v → 1 ≤ x) × Up v w es xs
up_first (up_more q p t) = (q, p, t)

rest_first : {d : Sym} {v : List Sym} {b x : ℕ} {bs xs : List ℕ} → Rest (d ∷ v) (b ∷ bs) (x ∷ xs) →
    (x + (bit d + val v) ≡ 2 * b) × Rest v bs xs
rest_first (rest_more q p t) = (q, t)

to_down : (y : List Sym) {w : List Sym} {es xs : List ℕ} → Up y w es xs → full y ≤ 4 * val y + 2 →
    Down 1 y w (plus es (grays y)) xs
to_down [] up_none big = down_none
to_down (d ∷ []) (up_more q p up_none) big = down_more (omega arith) (omega arith) down_none
to_down (d ∷ e ∷ l) (up_more {x = x} q p t) big =
    let some : 1 ≤ x = p (omega (arith, full_pos l, bit_top d)) in
    down_more (omega arith) (omega arith) (to_down (e ∷ l) t (omega (arith, bit_top d)))

settle : {v w y : List Sym} {cs bs es xs : List ℕ} → Balance cs bs es w y → Zeros cs →
    Down 0 v w (raise (zeros y) (plus es (grays y))) xs → Rest v bs xs
settle balanced z down_none = rest_none
settle (balance {y = y} e t) (zero_more z) (down_more {v = v} q p h) =
    rest_more (omega (arith, zeros_half_power y)) (omega (arith, slack_none v)) (settle t z h)

-- rules after one another, with the lists between them given
then_comes : (z w v : Zipper) → Comes m z w → Comes m w v → Comes m z v
then_comes z w v f g = f ⨾ g

then_goes : (z w v : Zipper) → Comes m z w → Goes m w v → Goes m z v
then_goes z w v f g = f ⨾⁺ g

pub goes_on : (z w v u : Zipper) → Goes m z w → Comes m w v → Goes m v u → Goes m z u
goes_on z w v u f g h = f ⁺⨾ g ⨾ weakened h

-- the two empty groups at the end are groups too, where the first group is used up by ticks
pub used_up : (a : ℕ) (xs ys : List ℕ) → ((x : List Sym) → Comes m (groups a (xs ++ 0 ∷ 0 ∷ []) x) (groups 0 ys x)) →
    Comes m (groups a xs ii) (groups 0 ys [])
used_up a xs ys ticks = same m (ap (λ l. AtRight (repeat oi a l) 1 []) (tail_wide xs)) ⨾ ticks []

-- up from w, until a group is used up
rise : (a : ℕ) (u : Sym) (w y : List Sym) {b : ℕ} {bs xs : List ℕ} → Rest (u ∷ w) (b ∷ bs) xs →
    (a + 1) + val (u ∷ w) ≡ 2 * val y → full y ≡ 2 * full (u ∷ w) →
    (x : ℕ) × (ys : List ℕ) × Goes m (groups a xs ii) (groups x ys [])
    × (x + 2 * (bit u + val (wide w)) ≡ 2 * b + val y) × Up y (wide w) (bs ++ 0 ∷ 0 ∷ []) ys
rise a u w y {b = b} {bs = bs} {xs = xs} t lead fit =
    let some : 1 ≤ val y = omega arith in
    let low : suc (val (dec y)) ≡ val y = dec_val y some in
    let (ys, up, go) =
    up_ticks a a 0 (val (dec y)) (u ∷ wide w) (One ∷ dec y) (begin_up t) (omega arith) (omega (arith, wide_val w))
    (omega (arith, wide_full w, dec_full y)) (omega arith) in
    let (c, r, ups, drop) = up_drop (dec y) {xs = ys} up (omega (arith, val_below y, dec_full y)) in
    let back : inc (dec y) ≡ y = same_digits (inc (dec y)) y (omega (arith, inc_full (dec y), dec_full y))
    (omega (arith, inc_val (dec y) (omega (arith, val_below y, dec_full y)))) in
    let (q, _, rests) =
    up_first {x = suc c} {xs = r}
    (subst (λ v. Up (Zero ∷ v) (u ∷ wide w) (b ∷ bs ++ 0 ∷ 0 ∷ []) (suc c ∷ r)) back ups) in (
      suc c,
      r,
      then_goes (groups a xs ii) (groups 0 ys []) (groups (suc c) r []) (used_up a xs ys go) (drop []),
      omega arith,
      rests,
    )

-- down to zero
fall : (x h : ℕ) (y : List Sym) {w : List Sym} {fs ys : List ℕ} → Down 1 y w fs ys → x ≡ val y + twice h →
    (zs : List ℕ) × Down 1 (zeros y) w fs zs × Comes m (groups x ys []) (groups (twice h) zs [])
fall x h y t count =
    let (zs, down, go) = down_ticks 1 (val y) x (twice h) h y (zeros y) t count (omega (arith, zeros_val y))
    (omega (arith, zeros_full y)) (omega (arith, zeros_val y, twice_is h)) in
    (zs, down, go [])

-- and once more down, until a group is used up
over : (h : ℕ) (d : Sym) (l v : List Sym) {w : List Sym} {fs zs : List ℕ} → Down 1 (zeros (d ∷ l)) w fs zs →
    (val v + h) + 1 ≡ full v → full (d ∷ l) ≡ 2 * full v →
    (a : ℕ) × (ys : List ℕ) × Goes m (groups (twice h) zs []) (groups a ys ii)
    × Down 0 (One ∷ v) w (raise (zeros (d ∷ l)) fs) (a ∷ ys)
over zero d l v {w = w} {fs = fs} {zs = zs} t low fit =
    let (c, r, go, down) = over_visit Zero (zeros l) t (zeros_val (d ∷ l)) in
    let top : ones (zeros (d ∷ l)) ≡ One ∷ v =
    same_digits (ones (zeros (d ∷ l))) (One ∷ v) (omega (arith, ones_full (zeros l), zeros_full l))
    (omega (arith, ones_val (zeros l), zeros_full l)) in (
      suc c,
      r,
      tick_drop zs [] (repeat oi c (tail r ii)) go,
      subst (λ x. Down 0 x w (raise (zeros (d ∷ l)) fs) (suc c ∷ r)) top down,
    )
over (suc h) d l v {w = w} {fs = fs} {zs = zs} t low fit =
    let (c, r, go, down) = over_visit Zero (zeros l) t (zeros_val (d ∷ l)) in
    let room : val v + 2 ≤ full v = omega arith in
    let more : val (inc v) ≡ suc (val v) = inc_val v room in
    let (ys, downs, goes) =
    down_ticks 0 (suc (twice h)) (suc (twice h)) 0 (val (inc v)) (ones (zeros (d ∷ l)))
    (Zero ∷ inc v) {xs = suc c ∷ r} down
    (omega arith)
    (omega (arith, twice_is h, ones_val (zeros l), zeros_full l))
    (omega (arith, inc_full v, ones_full (zeros l), zeros_full l)) (omega arith) in
    let (c2, r2, down2, drop) = down_drop 0 (inc v) {xs = ys} downs (omega arith) in
    let back : dec (inc v) ≡ v = same_digits (dec (inc v)) v (omega (arith, dec_full (inc v), inc_full v))
    (omega (arith, dec_val (inc v) (omega arith))) in (
      suc c2,
      r2,
      then_goes (groups (twice (suc h)) zs []) (groups 0 ys ii) (groups (suc c2) r2 ii)
          (then_comes (groups (twice (suc h)) zs []) (groups (suc (twice h)) (suc c ∷ r) ii) (groups 0 ys ii)
          (at_even (suc (twice h)) h c zs r [] ii refl go) (goes ii)) (drop ii),
      subst (λ x. Down 0 (One ∷ x) w (raise (zeros (d ∷ l)) fs) (suc c2 ∷ r2)) back down2,
    )

-- the whole
pub round : (a c : ℕ) (u : Sym) (w v y : List Sym) {b b1 b2 : ℕ} {bs bs2 zs xs : List ℕ} → Rest (u ∷ w) (b ∷ bs) xs →
    Balance zs (b1 ∷ b2 ∷ bs2) (bs ++ 0 ∷ 0 ∷ []) (wide w) y → Zeros zs →
    (val w + b) + 1 ≡ full (u ∷ w) + c → (a + 1) + val (u ∷ w) ≡ 2 * val y → full y ≤ 4 * val y + 2 →
    full y ≡ 2 * full (u ∷ w) →
    val v + c ≡ val (u ∷ w) → full v ≡ full (u ∷ w) →
    (x : ℕ) × (ys : List ℕ) × Goes m (groups a xs ii) (groups x ys ii) × Rest v (b2 ∷ bs2) ys
    × (x + (1 + val v) ≡ 2 * b1)
round a c u w v [] t bal z low lead big fit to long = absurd (omega (arith, full_pos w))
round a c u w v (d ∷ y) {b = b} {bs = bs} {xs = xs} t bal z low lead big fit to long =
    let (x, ys, go, q, up) = rise a u w (d ∷ y) t lead fit in
    let h : ℕ = b - (bit u + val w) in
    let high : b ≡ h + (bit u + val w) = omega (arith, val_below w, bit_top u) in
    let (zs, down, goes) = fall x h (d ∷ y) {ys = ys} (to_down (d ∷ y) {xs = ys} up big)
    (omega (arith, twice_is h, wide_val w)) in
    let (x2, ys2, over_go, downs) = over h d y v {zs = zs} down (omega arith) (omega arith) in
    let (q2, rests) = rest_first {x = x2} {xs = ys2} (settle {xs = x2 ∷ ys2} bal z downs) in (
      x2,
      ys2,
      goes_on (groups a xs ii) (groups x ys []) (groups (twice h) zs []) (groups x2 ys2 ii) go goes over_go,
      rests,
      q2,
    )
