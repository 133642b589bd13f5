-- Blocks have values, cells and equations between them, and stand in place of others.
use Rattle.std.proofs.Common.{◌≡◌, ℕ, ◌+◌, ◌*◌, Bool, true, false, List, [], ◌∷◌, Option, Some, None, refl, sym, ap, ◌∙◌, arith, zero, suc, ◌++◌, map, append_assoc, ◌-◌, ◌<◌, ◌&&◌, ◌==◌, take, drop, length, subst, length-drop}
use Rattle.std.proofs.Math.Nat.{add-mul, mul-add, mul_assoc}
use Rattle.std.proofs.lemmas.Bool.{and_parts, false≢true}
use Rattle.std.proofs.lemmas.Bool.Decides.{Decides-eqb}
use Rattle.std.proofs.lemmas.Option.{same_Some, none-some}
use Rattle.std.specs.Prelude.{if◌then◌else◌, nat_le}
use Rattle.std.proofs.lemmas.List.{take-append-drop}
use Rattle.law_induction.specs.declared.scripts.Exponent.{Exponent}
use Rattle.law_induction.specs.declared.scripts.Exponents.{Exponents}
use Rattle.law_induction.specs.declared.scripts.Block.{Block}
use Rattle.law_induction.specs.Words.{exponent_limit, Values, value, times_with, times_eq, block_eq, blocks_eq, one_time, never_once, single, single_word, word_symbols, cells, symbol_eq, symbols_eq, IsBeyond}
use Rattle.law_induction.specs.Scripts.{◌>>=◌, within_limit, plus, scaled, sum_of, product_of, substituted, are_blanks, Sides, sides, is_at_end, replaced, half_rewritten}
use Rattle.machine_text.specs.declared.table.Sym.{Sym}
use Rattle.machine_text.specs.declared.table.Sym.TheVariants.{Zero, One}
use Rattle.law_machines.specs.Terms.{symbol_at, repeat, SameCells}
use Rattle.law_machines.proofs.RuleLaws.{same_repeat}
use Rattle.law_induction.specs.declared.scripts.Equation.{Equation}
use Rattle.law_induction.specs.declared.scripts.Equation.TheVariants.{Split, Spell, Roll, Power, Empty, Blank}

-- The values of exponents.

-- what came of two steps
pub bound : {A B : Type 0} (o : Option A) (f : A → Option B) (b : B) → (o >>= f) ≡ Some b → (a : A) × (o ≡ Some a) × (f a ≡ Some b)
bound None f b e = absurd (none-some b e)
bound (Some a) f b e = (a, refl, e)

-- what came of a test
pub tested : {B : Type 0} (t : Bool) (o : Option B) (b : B) → (if t then o else None) ≡ Some b → (t ≡ true) × (o ≡ Some b)
tested true o b e = (refl, e)
tested false o b e = absurd (none-some b e)

pub value_once : (v : Values) → value one_time v ≡ 1
value_once v = omega arith

pub value_plus : (s t : Exponent) (v : Values) → value (plus s t) v ≡ value s v + value t v
value_plus s t v =
    let a = add-mul s.a t.a v.a in
    let b = add-mul s.b t.b v.b in
    let c = add-mul s.c t.c v.c in
    let d = add-mul s.d t.d v.d in
    omega arith

pub value_scaled : (k : ℕ) (t : Exponent) (v : Values) → value (scaled k t) v ≡ k * value t v
value_scaled k t v =
    let a = mul_assoc k t.a v.a in
    let b = mul_assoc k t.b v.b in
    let c = mul_assoc k t.c v.c in
    let d = mul_assoc k t.d v.d in
    let p = mul-add k (t.c * v.c) (t.d * v.d) in
    let q = mul-add k (t.b * v.b) (t.c * v.c + t.d * v.d) in
    let r = mul-add k (t.a * v.a) (t.b * v.b + (t.c * v.c + t.d * v.d)) in
    let s = mul-add k t.ones (t.a * v.a + (t.b * v.b + (t.c * v.c + t.d * v.d))) in
    omega arith

number_same : (n k : ℕ) → within_limit n ≡ Some k → n ≡ k
unfolding within_limit
number_same n k is = same_Some n k (tested (nat_le n exponent_limit) (Some n) k is).1

times_same : (a b c d n e f g h k : ℕ) → n ≡ k → a ≡ e → b ≡ f → c ≡ g → d ≡ h → times_with n a b c d ≡ times_with k e f g h
times_same a b c d n e f g h k p q r s t = cc

pub sum_plus : (s t u : Exponent) → sum_of s t ≡ Some u → plus s t ≡ u
unfolding sum_of
sum_plus s t u is =
    let (n, is_n, r1) = bound (within_limit (s.ones + t.ones)) _ u is in
    let (a, is_a, r2) = bound (within_limit (s.a + t.a)) _ u r1 in
    let (b, is_b, r3) = bound (within_limit (s.b + t.b)) _ u r2 in
    let (c, is_c, r4) = bound (within_limit (s.c + t.c)) _ u r3 in
    let (d, is_d, r5) = bound (within_limit (s.d + t.d)) _ u r4 in
    times_same _ _ _ _ _ a b c d n (number_same _ n is_n) (number_same _ a is_a) (number_same _ b is_b) (number_same _ c is_c) (number_same _ d is_d) ∙ same_Some _ u r5

pub product_scaled : (k : ℕ) (t u : Exponent) → product_of k t ≡ Some u → scaled k t ≡ u
unfolding product_of
product_scaled k t u is =
    let (n, is_n, r1) = bound (within_limit (k * t.ones)) _ u is in
    let (a, is_a, r2) = bound (within_limit (k * t.a)) _ u r1 in
    let (b, is_b, r3) = bound (within_limit (k * t.b)) _ u r2 in
    let (c, is_c, r4) = bound (within_limit (k * t.c)) _ u r3 in
    let (d, is_d, r5) = bound (within_limit (k * t.d)) _ u r4 in
    times_same _ _ _ _ _ a b c d n (number_same _ n is_n) (number_same _ a is_a) (number_same _ b is_b) (number_same _ c is_c) (number_same _ d is_d) ∙ same_Some _ u r5

pub value_sum : (s t u : Exponent) (v : Values) → sum_of s t ≡ Some u → value u v ≡ value s v + value t v
value_sum s t u v is = ap (λ x. value x v) (sym (sum_plus s t u is)) ∙ value_plus s t v

pub value_product : (k : ℕ) (t u : Exponent) (v : Values) → product_of k t ≡ Some u → value u v ≡ k * value t v
value_product k t u v is = ap (λ x. value x v) (sym (product_scaled k t u is)) ∙ value_scaled k t v

-- the numbers that stand in place of the variables
abbrev pub values_by : Exponents → Values → Values
values_by by v = record { a = value by.a v; b = value by.b v; c = value by.c v; d = value by.d v }

pub value_substituted : (t : Exponent) (by : Exponents) (u : Exponent) (v : Values) → substituted t by ≡ Some u → value u v ≡ value t (values_by by v)
unfolding substituted
value_substituted t by u v is =
    let (a, is_a, r1) = bound (product_of t.a by.a) _ u is in
    let (b, is_b, r2) = bound (product_of t.b by.b) _ u r1 in
    let (c, is_c, r3) = bound (product_of t.c by.c) _ u r2 in
    let (d, is_d, r4) = bound (product_of t.d by.d) _ u r3 in
    let (cd, is_cd, r5) = bound (sum_of c d) _ u r4 in
    let (bcd, is_bcd, r6) = bound (sum_of b cd) _ u r5 in
    let (abcd, is_abcd, r7) = bound (sum_of a bcd) _ u r6 in
    let va = value_product t.a by.a a v is_a in
    let vb = value_product t.b by.b b v is_b in
    let vc = value_product t.c by.c c v is_c in
    let vd = value_product t.d by.d d v is_d in
    let vcd = value_sum c d cd v is_cd in
    let vbcd = value_sum b cd bcd v is_bcd in
    let vabcd = value_sum a bcd abcd v is_abcd in
    let vu = value_sum (times_with t.ones 0 0 0 0) abcd u v r7 in
    chain (value a v) (value b v) (value c v) (value d v) (value cd v) (value bcd v) (value abcd v) (value u v) t.ones _ _ _ _ va vb vc vd vcd vbcd vabcd (vu ∙ ap (λ x. x + value abcd v) (alone t.ones v))
  where
    alone : (n : ℕ) (v : Values) → value (times_with n 0 0 0 0) v ≡ n
    alone n v = omega arith

    chain : (a b c d cd bcd abcd u n pa pb pc pd : ℕ) → a ≡ pa → b ≡ pb → c ≡ pc → d ≡ pd → cd ≡ c + d → bcd ≡ b + cd → abcd ≡ a + bcd → u ≡ n + abcd →
        u ≡ n + (pa + (pb + (pc + pd)))
    chain a b c d cd bcd abcd u n pa pb pc pd e1 e2 e3 e4 e5 e6 e7 e8 = omega arith

-- whether they are the same
same_times : (s t : Exponent) → times_eq s t ≡ true → s ≡ t
same_times s t is =
    let (o, r1) = and_parts _ _ is in
    let (a, r2) = and_parts _ _ r1 in
    let (b, r3) = and_parts _ _ r2 in
    let (c, d) = and_parts _ _ r3 in
    let eo = (Decides-eqb s.ones t.ones).0 o in
    let ea = (Decides-eqb s.a t.a).0 a in
    let eb = (Decides-eqb s.b t.b).0 b in
    let ec = (Decides-eqb s.c t.c).0 c in
    let ed = (Decides-eqb s.d t.d).0 d in
    ap (λ x. times_with x s.a s.b s.c s.d) eo ∙ ap (λ x. times_with t.ones x s.b s.c s.d) ea ∙ ap (λ x. times_with t.ones t.a x s.c s.d) eb ∙ ap (λ x. times_with t.ones t.a t.b x s.d) ec ∙ ap (λ x. times_with t.ones t.a t.b t.c x) ed

pub same_block : (x y : Block) → block_eq x y ≡ true → x ≡ y
same_block x y is =
    let (w, t) = and_parts _ _ is in
    let ew = (Decides-eqb x.word y.word).0 w in
    let et = same_times x.times y.times t in
    ap (λ n. record { word = n; times = x.times }) ew ∙ ap (λ n. record { word = y.word; times = n }) et

pub same_blocks : (xs ys : List Block) → blocks_eq xs ys ≡ true → xs ≡ ys
same_blocks [] [] is = refl
same_blocks [] (y ∷ ys) is = absurd (false≢true is)
same_blocks (x ∷ xs) [] is = absurd (false≢true is)
same_blocks (x ∷ xs) (y ∷ ys) is =
    let (h, t) = and_parts (block_eq x y) (blocks_eq xs ys) is in
    ap (λ z. z ∷ xs) (same_block x y h) ∙ ap (λ zs. y ∷ zs) (same_blocks xs ys t)

-- The cells of blocks, and equations between them.

-- so many words, and more
pub repeat_add : (w : List Sym) (i j : ℕ) (l : List Sym) → repeat w (i + j) l ≡ repeat w i (repeat w j l)
repeat_add w zero j l = ap (λ n. repeat w n l) (let p : zero + j ≡ j = omega arith in p)
repeat_add w (suc i) j l =
    ap (λ n. repeat w n l) (let p : suc i + j ≡ suc (i + j) = omega arith in p) ∙ ap (λ x. w ++ x) (repeat_add w i j l)

-- a word that words can be rolled over
pub repeat_rolled : (u w v : List Sym) → u ++ w ≡ v ++ u → (n : ℕ) (l : List Sym) → u ++ repeat w n l ≡ repeat v n (u ++ l)
repeat_rolled u w v same zero l = refl
repeat_rolled u w v same (suc n) l =
    sym (append_assoc u w (repeat w n l)) ∙ ap (λ x. x ++ repeat w n l) same ∙ append_assoc v u (repeat w n l) ∙ ap (λ x. v ++ x) (repeat_rolled u w v same n l)

-- words of words
repeat_before : (w : List Sym) (k : ℕ) (l : List Sym) → repeat w k [] ++ l ≡ repeat w k l
repeat_before w zero l = refl
repeat_before w (suc k) l = append_assoc w (repeat w k []) l ∙ ap (λ x. w ++ x) (repeat_before w k l)

pub repeat_power : (v w : List Sym) (k : ℕ) → v ≡ repeat w k [] → (n : ℕ) (l : List Sym) → repeat v n l ≡ repeat w (k * n) l
repeat_power v w k is zero l = ap (λ x. repeat w x l) (let p : 0 ≡ k * zero = omega arith in p)
repeat_power v w k is (suc n) l =
    ap (λ x. x ++ repeat v n l) is ∙ repeat_before w k (repeat v n l) ∙ ap (repeat w k) (repeat_power v w k is n l) ∙ sym (repeat_add w k (k * n) l) ∙ ap (λ x. repeat w x l) (let p : k + k * n ≡ k * suc n = omega arith in p)

-- blocks behind blocks
pub cells_append : (xs ys : List Block) (v : Values) (l : List Sym) → cells (xs ++ ys) v l ≡ cells xs v (cells ys v l)
cells_append [] ys v l = refl
cells_append (x ∷ xs) ys v l = ap (repeat (word_symbols x.word) (value x.times v)) (cells_append xs ys v l)

-- one symbol
single_symbols : (s : Sym) → word_symbols (single_word s) ≡ s ∷ []
unfolding word_symbols
single_symbols Zero = refl
single_symbols One = refl

repeat_once : (w : List Sym) (n : ℕ) (l : List Sym) → n ≡ 1 → repeat w n l ≡ w ++ l
repeat_once w n l is = ap (λ k. repeat w k l) is

pub cells_once : (word : ℕ) (v : Values) (l : List Sym) → repeat (word_symbols word) (value one_time v) l ≡ word_symbols word ++ l
cells_once word v l = repeat_once (word_symbols word) (value one_time v) l (value_once v)

pub cells_single : (s : Sym) (v : Values) (l : List Sym) → repeat (word_symbols (single_word s)) (value one_time v) l ≡ s ∷ l
cells_single s v l = cells_once (single_word s) v l ∙ ap (λ w. w ++ l) (single_symbols s)

-- the symbols of a word
pub cells_spelled : (w : List Sym) (v : Values) (l : List Sym) → cells (map single w) v l ≡ w ++ l
cells_spelled [] v l = refl
cells_spelled (s ∷ w) v l = cells_single s v (cells (map single w) v l) ∙ ap (λ x. s ∷ x) (cells_spelled w v l)

-- none
pub cells_never : (w : List Sym) (v : Values) (l : List Sym) → repeat w (value never_once v) l ≡ l
cells_never w v l = ap (λ n. repeat w n l) (let p : value never_once v ≡ 0 = omega arith in p)

-- blanks
blank_first : (l : List Sym) → SameCells l [] → SameCells (Zero ∷ l) []
blank_first l same = record { cell = go }
  where
    go : (n : ℕ) → symbol_at (Zero ∷ l) n ≡ symbol_at [] n
    go zero = refl
    go (suc n) = same.cell n

blank_before : (w l : List Sym) → are_blanks w ≡ true → SameCells l [] → SameCells (w ++ l) []
unfolding are_blanks
blank_before [] l are same = same
blank_before (Zero ∷ w) l are same = blank_first (w ++ l) (blank_before w l are same)
blank_before (One ∷ w) l are same = absurd (false≢true are)

pub blanks_same : (w : List Sym) (n : ℕ) → are_blanks w ≡ true → SameCells (repeat w n []) []
blanks_same w zero are = record { cell = λ n. refl }
blanks_same w (suc n) are = blank_before w (repeat w n []) are (blanks_same w n are)

-- whether symbols are the same
same_symbol : (a b : Sym) → symbol_eq a b ≡ true → a ≡ b
same_symbol Zero Zero is = refl
same_symbol Zero One is = absurd (false≢true is)
same_symbol One Zero is = absurd (false≢true is)
same_symbol One One is = refl

pub same_symbols : (xs ys : List Sym) → symbols_eq xs ys ≡ true → xs ≡ ys
same_symbols [] [] is = refl
same_symbols [] (y ∷ ys) is = absurd (false≢true is)
same_symbols (x ∷ xs) [] is = absurd (false≢true is)
same_symbols (x ∷ xs) (y ∷ ys) is =
    let (h, t) = and_parts (symbol_eq x y) (symbols_eq xs ys) is in
    ap (λ z. z ∷ xs) (same_symbol x y h) ∙ ap (λ zs. y ∷ zs) (same_symbols xs ys t)

-- Blocks in place of others.

-- half tapes of the same cells
pub same_is : (l k : List Sym) → l ≡ k → SameCells l k
same_is l k e = record { cell = λ n. ap (λ x. symbol_at x n) e }

pub same_back : (l k : List Sym) → SameCells l k → SameCells k l
same_back l k s = record { cell = λ n. sym (s.cell n) }

pub same_cells : (xs : List Block) (v : Values) (l k : List Sym) → SameCells l k → SameCells (cells xs v l) (cells xs v k)
same_cells [] v l k s = s
same_cells (x ∷ xs) v l k s = same_repeat (word_symbols x.word) (value x.times v) (cells xs v l) (cells xs v k) (same_cells xs v l k s)

-- the two sides of an equation are the same
pub record Agree (at_end : Bool) (old new : List Block) (v : Values) : Type 0 where
  pub same : (l : List Sym) → (at_end ≡ true → l ≡ []) → SameCells (cells old v l) (cells new v l)

agree_is : (at_end : Bool) (old new : List Block) (v : Values) → ((l : List Sym) → cells old v l ≡ cells new v l) → Agree at_end old new v
agree_is at_end old new v e = record { same = λ l end. same_is _ _ (e l) }

agree_sides : (at_end : Bool) (a s : Sides) (v : Values) → ◌≡◌ {A = Option Sides} (Some a) (Some s) → Agree at_end a.before a.after v → Agree at_end s.before s.after v
agree_sides at_end a s v e agree = subst (λ (x : Sides). Agree at_end x.before x.after v) (same_Some a s e) agree

pub sides_agree : (e : Equation) (s : Sides) (v : Values) → sides e ≡ Some s → Agree (is_at_end e) s.before s.after v
unfolding sides
sides_agree (Split w e f) s v is =
    let (t, sum, r) = bound (sum_of e f) _ s is in
    agree_sides false _ s v r (agree_is false _ _ v (λ l. ap (λ n. repeat (word_symbols w) n l) (value_sum e f t v sum) ∙ repeat_add (word_symbols w) (value e v) (value f v) l))
sides_agree (Spell w) s v is =
    agree_sides false _ s v is (agree_is false _ _ v (λ l. cells_once w v l ∙ sym (cells_spelled (word_symbols w) v l)))
sides_agree (Roll u w x e) s v is =
    let (same, r) = tested (symbols_eq (word_symbols u ++ word_symbols w) (word_symbols x ++ word_symbols u)) _ s is in
    agree_sides false _ s v r (agree_is false _ _ v (λ l.
    cells_once u v (repeat (word_symbols w) (value e v) l) ∙
    repeat_rolled (word_symbols u) (word_symbols w) (word_symbols x) (same_symbols _ _ same) (value e v) l ∙
    ap (repeat (word_symbols x) (value e v)) (sym (cells_once u v l))))
sides_agree (Power x w k e) s v is =
    let (both, more) = tested (nat_le k 63 && symbols_eq (word_symbols x) (repeat (word_symbols w) k [])) _ s is in
    let (few, same) = and_parts _ _ both in
    let (t, product, r) = bound (product_of k e) _ s more in
    agree_sides false _ s v r (agree_is false _ _ v (λ l.
    repeat_power (word_symbols x) (word_symbols w) k (same_symbols _ _ same) (value e v) l ∙
    ap (λ n. repeat (word_symbols w) n l) (sym (value_product k e t v product))))
sides_agree (Empty w) s v is = agree_sides false _ s v is (agree_is false _ _ v (λ l. cells_never (word_symbols w) v l))
sides_agree (Blank w e) s v is =
    let (are, r) = tested (are_blanks (word_symbols w)) _ s is in
    agree_sides true _ s v r (record {
      same = λ l end. subst (λ x. SameCells (repeat (word_symbols w) (value e v) x) x) (sym (end refl)) (blanks_same (word_symbols w) (value e v) are);
    })

-- and the other way round
pub agree_back : (at_end : Bool) (old new : List Block) (v : Values) → Agree at_end old new v → Agree at_end new old v
agree_back at_end old new v agree = record { same = λ l end. same_back _ _ (agree.same l end) }

-- what was replaced at a place
pub replaced_parts : (place : ℕ) (old new xs ys : List Block) → replaced place old new xs ≡ Some ys →
    (xs ≡ take place xs ++ (old ++ drop (length old) (drop place xs))) × (ys ≡ take place xs ++ (new ++ drop (length old) (drop place xs)))
unfolding replaced
replaced_parts place old new xs ys is =
    let (sure, r) = tested (nat_le place (length xs) && blocks_eq old (take (length old) (drop place xs))) _ ys is in
    let there : take (length old) (drop place xs) ≡ old = sym (same_blocks _ _ (and_parts _ _ sure).1) in
    let cut : drop place xs ≡ old ++ drop (length old) (drop place xs) =
    sym (take-append-drop (length old) (drop place xs)) ∙ ap (λ x. x ++ drop (length old) (drop place xs)) there in (
      sym (take-append-drop place xs) ∙ ap (λ x. take place xs ++ x) cut,
      sym (same_Some _ _ r),
    )

no_more : (xs : List Block) → length xs ≡ 0 → xs ≡ []
no_more [] e = refl
no_more (x ∷ xs) e = absurd (let p : 0 < suc (length xs) = omega arith in omega arith)

-- an equation used on a half tape
in_place : (v : Values) (l : List Sym) (front old new rest : List Block) → SameCells (cells old v (cells rest v l)) (cells new v (cells rest v l)) →
    SameCells (cells (front ++ (old ++ rest)) v l) (cells (front ++ (new ++ rest)) v l)
in_place v l front old new rest same =
    subst (λ x. SameCells x (cells (front ++ (new ++ rest)) v l)) (sym (cells_append front (old ++ rest) v l ∙ ap (cells front v) (cells_append old rest v l)))
    (subst (λ x. SameCells (cells front v (cells old v (cells rest v l))) x) (sym (cells_append front (new ++ rest) v l ∙ ap (cells front v) (cells_append new rest v l)))
    (same_cells front v _ _ same))

replaced_same : (v : Values) (l : List Sym) (place : ℕ) (old new xs ys : List Block) → replaced place old new xs ≡ Some ys →
    SameCells (cells old v (cells (drop (length old) (drop place xs)) v l)) (cells new v (cells (drop (length old) (drop place xs)) v l)) →
    SameCells (cells xs v l) (cells ys v l)
replaced_same v l place old new xs ys is same =
    let (before, after) = replaced_parts place old new xs ys is in
    subst (λ x. SameCells x (cells ys v l)) (ap (λ x. cells x v l) (sym before))
    (subst (λ y. SameCells (cells (take place xs ++ (old ++ drop (length old) (drop place xs))) v l) y) (ap (λ x. cells x v l) (sym after))
    (in_place v l (take place xs) old new (drop (length old) (drop place xs)) same))

pub rewritten_same : (at_end open_end : Bool) (v : Values) (l : List Sym) (place : ℕ) (old new xs ys : List Block) →
    half_rewritten at_end open_end place old new xs ≡ Some ys → Agree at_end old new v → IsBeyond open_end l → SameCells (cells xs v l) (cells ys v l)
unfolding half_rewritten
rewritten_same false open_end v l place old new xs ys is agree beyond =
    replaced_same v l place old new xs ys is (agree.same _ (λ sure. absurd (false≢true sure)))
rewritten_same true true v l place old new xs ys is agree beyond = absurd (none-some ys is)
rewritten_same true false v l place old new xs ys is agree beyond =
    let (fits, r) = tested (place + length old == length xs) (replaced place old new xs) ys is in
    let sum = (Decides-eqb (place + length old) (length xs)).0 fits in
    let none : drop (length old) (drop place xs) ≡ [] = no_more _ (left place (length old) xs sum) in
    replaced_same v l place old new xs ys r (agree.same _ (λ sure. ap (λ x. cells x v l) none ∙ beyond refl))
  where
    left : (i n : ℕ) (xs : List Block) → i + n ≡ length xs → length (drop n (drop i xs)) ≡ 0
    left i n xs sum = length-drop n (drop i xs) ∙ ap (λ k. k - n) (length-drop i xs) ∙ (omega arith)
