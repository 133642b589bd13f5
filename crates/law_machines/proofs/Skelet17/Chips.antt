-- A round adds one chip: it makes one of the numbers greater by one, or w less by one. Here is which one the next round
-- adds. A chip that is put to a number comes again two places lower; and at the two lowest places, where it is put to y
-- or taken from w, it comes again at the place where G changes.
--
-- That w stays within its bounds follows from the sum of every second equation of the balance: each has the number two
-- places further on, so the numbers fall out of the sum (level_law).
use Rattle.std.proofs.Common.{◌≡◌, ℕ, ◌+◌, ◌*◌, ◌≤◌, Bool, true, false, List, [], ◌∷◌, ◌++◌, ◌⊎◌, inl, inr, ap, subst, refl, arith}
use Rattle.machine_text.specs.declared.table.Sym.{Sym}
use Rattle.machine_text.specs.declared.table.Sym.TheVariants.{Zero, One}
use Rattle.law_machines.proofs.DigitLists.{val, full, val_below}
use Rattle.law_machines.proofs.Skelet17.Gray.{inc, dec, ones, inc_val, inc_full, dec_val, dec_full, ones_val, ones_full, same_digits, grays, wide, wide_val, wide_full, bit_top}
use Rattle.law_machines.proofs.Skelet17.Phases.{half_power}
use Rattle.law_machines.proofs.Skelet17.Rounds.{plus, Balance, balanced, balance, Zeros, no_more, zero_more}

-- one item is one, and all others are none
pub data Hot : List ℕ → Type 0 where
  hot : {l : List ℕ} → Zeros l → Hot (1 ∷ l)
  cold : {l : List ℕ} → Hot l → Hot (0 ∷ l)

pub zeros_pad : {l : List ℕ} → Zeros l → Zeros (l ++ 0 ∷ 0 ∷ [])
zeros_pad no_more = zero_more (zero_more no_more)
zeros_pad (zero_more z) = zero_more (zeros_pad z)

pub hot_pad : {l : List ℕ} → Hot l → Hot (l ++ 0 ∷ 0 ∷ [])
hot_pad (hot z) = hot (zeros_pad z)
hot_pad (cold h) = cold (hot_pad h)

-- lists of one length
data Alike : List ℕ → List ℕ → Type 0 where
  alike_none : Alike [] []
  alike_more : {a b : ℕ} {l k : List ℕ} → Alike l k → Alike (a ∷ l) (b ∷ k)

alike_pad : (a b : ℕ) (l : List ℕ) → Alike (a ∷ b ∷ l) (l ++ 0 ∷ 0 ∷ [])
alike_pad a b [] = alike_more (alike_more alike_none)
alike_pad a b (c ∷ l) = alike_more (alike_pad b c l)

alike_rest : {a b : ℕ} {l k : List ℕ} → Alike (a ∷ l) (b ∷ k) → Alike l k
alike_rest (alike_more s) = s

balance_alike : {cs bs es : List ℕ} {w y : List Sym} → Balance cs bs es w y → Alike bs cs
balance_alike balanced = alike_none
balance_alike (balance q t) = alike_more (balance_alike t)

plus_pad : {l k : List ℕ} → Alike l k → plus (l ++ 0 ∷ 0 ∷ []) (k ++ 0 ∷ 0 ∷ []) ≡ plus l k ++ 0 ∷ 0 ∷ []
plus_pad alike_none = refl
plus_pad (alike_more {a = a} {b = b} s) = ap (λ x. (a + b) ∷ x) (plus_pad s)

-- the chips are put to the numbers
pub paid : {cs bs es : List ℕ} {w y : List Sym} → Balance cs bs es w y → (zs : List ℕ) × Zeros zs
    × Balance zs (plus bs cs) es w y
paid balanced = ([], no_more, balanced)
paid (balance q t) =
    let (zs, z, s) = paid t in
    (0 ∷ zs, zero_more z, balance (omega arith) s)

-- chips at places from the third on come again two places lower
shifted : {cs bs es ks : List ℕ} {w y : List Sym} → Balance cs bs es w y → Alike cs ks →
    Balance ks (plus bs cs) (plus es ks) w y
shifted balanced alike_none = balanced
shifted (balance q t) (alike_more s) = balance (omega arith) (shifted t s)

pub shift : (c d b1 b2 : ℕ) (cs bs : List ℕ) {w y : List Sym} →
    Balance (c ∷ d ∷ cs) (b1 ∷ b2 ∷ bs) (bs ++ 0 ∷ 0 ∷ []) w y →
    Balance (cs ++ 0 ∷ 0 ∷ []) ((b1 + c) ∷ (b2 + d) ∷ plus bs cs) (plus bs cs ++ 0 ∷ 0 ∷ []) w y
shift c d b1 b2 cs bs {w = w} {y = y} t =
    subst (λ es. Balance (cs ++ 0 ∷ 0 ∷ []) ((b1 + c) ∷ (b2 + d) ∷ plus bs cs) es w y)
    (plus_pad (alike_rest (alike_rest (balance_alike t)))) (shifted t (alike_pad c d cs))

half_power_inc : (l : List Sym) → half_power (inc l) ≡ half_power l
half_power_inc [] = refl
half_power_inc (Zero ∷ l) = refl
half_power_inc (One ∷ l) = inc_full l

-- where y grows, one number is to grow
pub up_chip : (y : List Sym) {zs bs es : List ℕ} {w : List Sym} → Balance zs bs es w y → Zeros zs → val y + 2 ≤ full y →
    (cs : List ℕ) × Hot cs × Balance cs bs es w (inc y)
up_chip [] t z free = absurd (omega arith)
up_chip (Zero ∷ y) (balance q t) (zero_more {l = l} z) free = (1 ∷ l, hot z, balance (omega arith) t)
up_chip (One ∷ y) (balance q t) (zero_more z) free =
    let room : val y + 2 ≤ full y = omega arith in
    let (cs, h, s) = up_chip y t z room in
    (0 ∷ cs, cold h, balance (omega (arith, inc_val y room, half_power_inc y)) s)

-- and where w falls
pub down_chip : (w : List Sym) {zs bs es : List ℕ} {y : List Sym} → Balance zs bs es w y → Zeros zs → 1 ≤ val w →
    (cs : List ℕ) × Hot cs × Balance cs bs es (dec w) y
down_chip [] t z some = absurd (omega arith)
down_chip (One ∷ w) (balance q t) (zero_more {l = l} z) some = (1 ∷ l, hot z, balance (omega arith) t)
down_chip (Zero ∷ w) (balance q t) (zero_more z) some =
    let more : 1 ≤ val w = omega arith in
    let (cs, h, s) = down_chip w t z more in
    (0 ∷ cs, cold h, balance (omega (arith, dec_val w more)) s)

pub wide_dec : (w : List Sym) → 1 ≤ val w → dec (wide w) ≡ wide (dec w)
wide_dec w some =
    let more : 1 ≤ val (wide w) = omega (arith, wide_val w) in
    same_digits (dec (wide w)) (wide (dec w))
    (omega (arith, dec_full (wide w), wide_full w, wide_full (dec w), dec_full w))
    (omega (arith, dec_val (wide w) more, wide_val w, wide_val (dec w), dec_val w some))

-- the sum of every second item, from the first one on or from the second
abbrev pub every_other : Bool → List ℕ → ℕ
every_other s [] = 0
every_other true (a ∷ l) = a + every_other false l
every_other false (a ∷ l) = every_other true l

abbrev pub halves : List Sym → List ℕ
halves [] = []
halves (d ∷ l) = half_power l ∷ halves l

sums : (s : Bool) {cs bs es : List ℕ} {w y : List Sym} → Balance cs bs es w y →
    (every_other s bs + every_other s cs) + every_other s (grays w) ≡
    (every_other s es + every_other s (grays y)) + every_other s (halves y)
sums s balanced = refl
sums true (balance q t) = omega (arith, sums false t)
sums false (balance q t) = sums true t

other_pad : (s : Bool) (l : List ℕ) → every_other s (l ++ 0 ∷ 0 ∷ []) ≡ every_other s l
other_pad true [] = refl
other_pad false [] = refl
other_pad true (a ∷ l) = ap (λ x. a + x) (other_pad false l)
other_pad false (a ∷ l) = other_pad true l

other_zeros : (s : Bool) {l : List ℕ} → Zeros l → every_other s l ≡ 0
other_zeros s no_more = refl
other_zeros true (zero_more z) = omega (arith, other_zeros false z)
other_zeros false (zero_more z) = other_zeros true z

other_wide : (s : Bool) (w : List Sym) → every_other s (grays (wide w)) ≡ every_other s (grays w)
other_wide true [] = refl
other_wide false [] = refl
other_wide true (d ∷ w) = omega (arith, wide_val w, other_wide false w)
other_wide false (d ∷ w) = other_wide true w

other_val : (w : List Sym) → every_other true (grays w) + every_other false (grays w) ≡ val w
other_val [] = refl
other_val (d ∷ w) = omega (arith, other_val w)

other_some : (w : List Sym) → val w ≤ 2 * every_other true (grays w)
other_some [] = omega arith
other_some (d ∷ w) = omega arith

other_top : (s : Bool) (y : List Sym) → every_other s (grays y) ≤ every_other s (grays (ones y))
other_top s [] = omega arith
other_top true (d ∷ y) = omega (arith, other_top false y, bit_top d, val_below y, ones_val y)
other_top false (d ∷ y) = other_top true y

-- a length that is odd
pub data OddLength : List Sym → Type 0 where
  single : {d : Sym} → OddLength (d ∷ [])
  double : {d e : Sym} {l : List Sym} → OddLength l → OddLength (d ∷ e ∷ l)

pub odd_inc : {l : List Sym} → OddLength l → OddLength (inc l)
odd_inc (single {d = Zero}) = single
odd_inc (single {d = One}) = single
odd_inc (double {d = Zero} o) = double o
odd_inc (double {d = One} {e = Zero} o) = double o
odd_inc (double {d = One} {e = One} o) = double (odd_inc o)

pub odd_grow : (e : Sym) {l : List Sym} → OddLength l → OddLength (e ∷ (l ++ Zero ∷ []))
odd_grow e single = double single
odd_grow e (double {e = f} o) = double (odd_grow f o)

odd_half_power : {l : List Sym} → OddLength l → 2 * half_power l ≡ full l
odd_half_power single = refl
odd_half_power (double o) = refl

top_sum : {y : List Sym} → OddLength y →
    2 * ((every_other false (grays (ones y)) + every_other false (halves y)) + 1) ≡ full y
top_sum single = refl
top_sum (double {l = l} o) = omega (arith, top_sum o, odd_half_power o, ones_val l)

-- what follows of a balance for w
pub level_law : (c b1 b2 : ℕ) (u : Sym) (w y : List Sym) {cs bs : List ℕ} → Balance cs (b1 ∷ b2 ∷ bs) (bs ++ 0 ∷ 0 ∷ [])
    (wide w) y → (val w + b2) + 1 ≡ full (u ∷ w) + c →
    (full (u ∷ w) + c) + every_other false cs ≡ (1 + every_other true (grays w)) +
    (every_other false (grays y) + every_other false (halves y))
level_law c b1 b2 u w y {bs = bs} t low =
    omega (arith, sums false t, other_pad false bs, other_wide false w, other_val w)

-- where w is to fall it is at least two
pub not_low : (b1 b2 : ℕ) (u : Sym) (w y : List Sym) {zs bs : List ℕ} → Balance zs (b1 ∷ b2 ∷ bs) (bs ++ 0 ∷ 0 ∷ [])
    (wide w) y → Zeros zs → OddLength y →
    (val w + b2) + 1 ≡ full (u ∷ w) + 1 → full y ≡ 2 * full (u ∷ w) → 1 ≤ val w
not_low b1 b2 u w y t z odd low fit =
    omega (arith, level_law 1 b1 b2 u w y t low, other_zeros false z, other_top false y, top_sum odd, other_val w)

-- and at the end of a level it is below two
pub is_low : (b1 b2 : ℕ) (u : Sym) (w y : List Sym) {zs bs : List ℕ} →
    Balance (1 ∷ zs) (b1 ∷ b2 ∷ bs) (bs ++ 0 ∷ 0 ∷ []) (wide w) y → Zeros zs → OddLength y →
    (val w + b2) + 1 ≡ full (u ∷ w) + 0 → full y ≡ 2 * full (u ∷ w) → val y + 1 ≡ full y → val w ≡ 0
is_low b1 b2 u w y t z odd low fit end =
    let top : y ≡ ones y = same_digits y (ones y) (omega (arith, ones_full y)) (omega (arith, ones_val y)) in
    let sum : every_other false (grays y) ≡ every_other false (grays (ones y)) =
    ap (λ l. every_other false (grays l)) top in
    omega (arith, level_law 0 b1 b2 u w y t low, other_zeros true z, top_sum odd, other_some w)

pub below_top : (l : List Sym) → (val l + 2 ≤ full l) ⊎ (val l + 1 ≡ full l)
below_top [] = inr refl
below_top (Zero ∷ l) = inl (omega (arith, val_below l))
below_top (One ∷ l) = elim (below_top l) [ inl h ↦ inl (omega arith) | inr h ↦ inr (omega arith) ]
