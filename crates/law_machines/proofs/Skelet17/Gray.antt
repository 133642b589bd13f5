-- Binary digits, the least one first, that go up and down by one, and the numbers G that go with a counter v: where v
-- is d + 2 u with a digit d, they are d + u, that is half of v rounded up, and then the numbers G of u. They are the
-- numbers of odd multiples of 1, 2, 4, .. from 1 to v, and their parities are the digits of the Gray code of v: from v
-- to v + 1 just one of them grows, by one.
use Rattle.std.proofs.Common.{◌≡◌, ℕ, suc, ◌+◌, ◌*◌, ◌≤◌, List, [], ◌∷◌, ◌++◌, ap, refl, arith}
use Rattle.machine_text.specs.declared.table.Sym.{Sym}
use Rattle.machine_text.specs.declared.table.Sym.TheVariants.{Zero, One}
use Rattle.law_machines.proofs.DigitLists.{bit, val, full, full_pos}

abbrev pub inc : List Sym → List Sym
inc [] = []
inc (Zero ∷ l) = One ∷ l
inc (One ∷ l) = Zero ∷ inc l

abbrev pub dec : List Sym → List Sym
dec [] = []
dec (One ∷ l) = Zero ∷ l
dec (Zero ∷ l) = One ∷ dec l

abbrev pub ones : List Sym → List Sym
ones [] = []
ones (d ∷ l) = One ∷ ones l

pub inc_val : (l : List Sym) → val l + 2 ≤ full l → val (inc l) ≡ suc (val l)
inc_val [] free = absurd (omega arith)
inc_val (Zero ∷ l) free = omega arith
inc_val (One ∷ l) free =
    let more : val l + 2 ≤ full l = omega arith in
    omega (arith, inc_val l more)

pub inc_full : (l : List Sym) → full (inc l) ≡ full l
inc_full [] = refl
inc_full (Zero ∷ l) = refl
inc_full (One ∷ l) = omega (arith, inc_full l)

pub dec_val : (l : List Sym) → 1 ≤ val l → suc (val (dec l)) ≡ val l
dec_val [] some = absurd (omega arith)
dec_val (One ∷ l) some = omega arith
dec_val (Zero ∷ l) some =
    let more : 1 ≤ val l = omega arith in
    omega (arith, dec_val l more)

pub dec_full : (l : List Sym) → full (dec l) ≡ full l
dec_full [] = refl
dec_full (One ∷ l) = refl
dec_full (Zero ∷ l) = omega (arith, dec_full l)

pub ones_val : (l : List Sym) → val (ones l) + 1 ≡ full l
ones_val [] = refl
ones_val (d ∷ l) = omega (arith, ones_val l)

pub ones_full : (l : List Sym) → full (ones l) ≡ full l
ones_full [] = refl
ones_full (d ∷ l) = omega (arith, ones_full l)

-- digits of one length and of one value
pub same_digits : (l k : List Sym) → full l ≡ full k → val l ≡ val k → l ≡ k
same_digits [] [] f v = refl
same_digits [] (d ∷ k) f v = absurd (omega (arith, full_pos k))
same_digits (d ∷ l) [] f v = absurd (omega (arith, full_pos l))
same_digits (Zero ∷ l) (Zero ∷ k) f v = ap (λ x. Zero ∷ x) (same_digits l k (omega arith) (omega arith))
same_digits (Zero ∷ l) (One ∷ k) f v = absurd (omega arith)
same_digits (One ∷ l) (Zero ∷ k) f v = absurd (omega arith)
same_digits (One ∷ l) (One ∷ k) f v = ap (λ x. One ∷ x) (same_digits l k (omega arith) (omega arith))

-- how many odd multiples of 1, 2, 4, .. there are from 1 to v
abbrev pub grays : List Sym → List ℕ
grays [] = []
grays (d ∷ l) = (bit d + val l) ∷ grays l

-- with two further digits
abbrev pub wide : List Sym → List Sym
wide [] = Zero ∷ Zero ∷ []
wide (d ∷ l) = d ∷ wide l

abbrev pub zeros : List Sym → List Sym
zeros [] = []
zeros (d ∷ l) = Zero ∷ zeros l

pub wide_val : (l : List Sym) → val (wide l) ≡ val l
wide_val [] = refl
wide_val (d ∷ l) = omega (arith, wide_val l)

pub wide_full : (l : List Sym) → full (wide l) ≡ 4 * full l
wide_full [] = refl
wide_full (d ∷ l) = omega (arith, wide_full l)

pub zeros_val : (l : List Sym) → val (zeros l) ≡ 0
zeros_val [] = refl
zeros_val (d ∷ l) = omega (arith, zeros_val l)

pub zeros_full : (l : List Sym) → full (zeros l) ≡ full l
zeros_full [] = refl
zeros_full (d ∷ l) = omega (arith, zeros_full l)

pub bit_top : (d : Sym) → bit d ≤ 1
bit_top Zero = omega arith
bit_top One = omega arith

pub pad_val : (l : List Sym) → val (l ++ Zero ∷ []) ≡ val l
pad_val [] = refl
pad_val (d ∷ l) = omega (arith, pad_val l)

pub pad_full : (l : List Sym) → full (l ++ Zero ∷ []) ≡ 2 * full l
pad_full [] = refl
pad_full (d ∷ l) = omega (arith, pad_full l)
