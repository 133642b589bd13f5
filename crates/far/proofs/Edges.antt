-- Numbers kept as bits that hold what second-automaton states ask for describe automata of the table.
use Rattle.std.proofs.Common.{◌≡◌, ℕ, ◌+◌, ◌-◌, ◌*◌, ◌/◌, ◌%◌, ◌^◌, ◌<◌, ◌≤◌, eqb, bit_or, true, false, List, get_or, inl, inr, sym, ap, ◌∙◌, subst, arith, Bool, Option, Some, None, refl}
use Rattle.std.specs.Prelude.{IsTrue, ◌↔◌, nat_lt}
use Rattle.std.specs.Int.{bit_at}
use Rattle.std.proofs.lemmas.Bool.{cases_eq, cases_lt, both_ways, and_parts, and_from, ltb-true, lt-ltb}
use Rattle.std.proofs.lemmas.Bool.Decides.{nat_tests}
use Rattle.std.proofs.Math.Nat.{div-le_self, mul_comm}
use Rattle.std.proofs.lemmas.Nat.{shr-shr, mul-add-lt, div-mul-add, mod-mul-add, div-add-mod', div_below, mod_below}
use Rattle.std.proofs.lemmas.Nat.Bits.{bit_at_or, bit_at-lt, bit_at-zero, same_from_bits, bit_at_above}
use Rattle.far.specs.Texts.{has, Automata, is_node, has_node, node_number, row_at, target, has_edge, described, AreAutomata, AreAutomataOf}
use Rattle.far.specs.inside.Steps.{Gathers, IsUnited, IsPart, last, ReachesIn, FitsEntry, FitsBy, FitsPair, EachFits, KeepsBlank}
use Rattle.machine_text.specs.declared.table.Sym.{Sym}
use Rattle.machine_text.specs.declared.table.Sym.TheVariants.{Zero, One}
use Rattle.machine_text.specs.declared.table.Entry.{Entry}
use Rattle.machine_text.specs.Terms.{Packed, IsTable, symbol_number, entry_of}
use Rattle.law_turing.specs.Terms.{Node, At, Halt}
use Rattle.law_turing.proofs.RunLaws.{table_machine}

-- Unions and parts of sets of numbers that are kept as bits.

-- a member, as a bit
pub bit_of : (set k : ℕ) → IsTrue (has set k) → bit_at set k ≡ 1
bit_of set k is = grind (arith, nat_tests, is)

pub member_of : (set k : ℕ) → bit_at set k ≡ 1 → IsTrue (has set k)
member_of set k is = grind (arith, nat_tests, is)

pub has_or : (a b k : ℕ) → IsTrue (has (bit_or a b) k) → (IsTrue (has a k) → ⊥) → IsTrue (has b k)
has_or a b k is other =
    let both = bit_of (bit_or a b) k is in
    let either = bit_at_or a b k in
    let small = bit_at-lt a k in
    elim (cases_eq (bit_at a k) 1) [
      | inl one ↦ absurd (other (member_of a k one))
      | inr zero ↦ member_of b k (omega arith)
    ]

pub has_left : (a b k : ℕ) → IsTrue (has a k) → IsTrue (has (bit_or a b) k)
has_left a b k is =
    let one = bit_of a k is in
    let either = bit_at_or a b k in
    let small = bit_at-lt b k in
    member_of (bit_or a b) k (omega arith)

pub has_right : (a b k : ℕ) → IsTrue (has b k) → IsTrue (has (bit_or a b) k)
has_right a b k is =
    let one = bit_of b k is in
    let either = bit_at_or a b k in
    let small = bit_at-lt a k in
    member_of (bit_or a b) k (omega arith)

pub gathers_first : (rows : List ℕ) (set r : ℕ) → Gathers rows set r 0 0
gathers_first rows set r = record {
  only = λ k is. let one = bit_of 0 k is in let none = bit_at-zero k in absurd (omega arith);
  all = λ j k below is at. absurd (omega arith);
}

-- one number more, which is a member
pub gathers_more : (rows : List ℕ) (set r j union : ℕ) → has set j ≡ true → Gathers rows set r j union → Gathers rows set r (j + 1) (bit_or union (get_or rows (2 * j + r) 0))
gathers_more rows set r j union in_set g = record {
  only = λ k is. elim (cases_eq (bit_at union k) 1) [
    | inl one ↦ let (i, below, member, at) = g.only k (member_of union k one) in (i, omega arith, member, at)
    | inr zero ↦ (j, omega arith, in_set, has_or union (get_or rows (2 * j + r) 0) k is (λ member. zero (bit_of union k member)))
  ];
  all = λ i k below member at. elim (cases_eq i j) [
    | inl same ↦ has_right union (get_or rows (2 * j + r) 0) k (subst (λ n. IsTrue (has (get_or rows (2 * n + r) 0) k)) same at)
    | inr other ↦ has_left union (get_or rows (2 * j + r) 0) k (g.all i k (omega arith) member at)
  ];
}

-- no member between two numbers
gathers_gap : (rows : List ℕ) (set r from to union : ℕ) → from ≤ to → ((i : ℕ) → from ≤ i → i < to → has set i ≡ false) → Gathers rows set r from union → Gathers rows set r to union
gathers_gap rows set r from to union ordered none g = record {
  only = λ k is. let (i, below, member, at) = g.only k is in (i, omega arith, member, at);
  all = λ i k below member at. elim (cases_lt i from) [
    | inl before ↦ g.all i k before member at
    | inr past ↦ absurd (both_ways (has set i) (none i past below) member)
  ];
}

shifted : (set from i : ℕ) → bit_at (set / 2 ^ from) i ≡ bit_at set (from + i)
shifted set from i = ap (λ n. n % 2) (shr-shr set from i)

no_member : (set from i : ℕ) → from ≤ i → bit_at (set / 2 ^ from) (i - from) ≡ 0 → has set i ≡ false
no_member set from i past none =
    let place : i ≡ from + (i - from) = omega arith in
    ap (λ b. eqb b 1) (ap (bit_at set) place ∙ sym (shifted set from (i - from)) ∙ none)

pub united_first : (rows : List ℕ) (set r : ℕ) → IsUnited rows set r 0 set 0
united_first rows set r = record { left = omega arith; gathered = gathers_first rows set r }

-- nothing is left, or nothing below a number
pub united_none : (rows : List ℕ) (set r from rest union reach : ℕ) → from ≤ reach → rest ≡ 0 → IsUnited rows set r from rest union → Gathers rows set r reach union
united_none rows set r from rest union reach within none u =
    gathers_gap rows set r from reach union within (λ i past below. no_member set from i past (ap (λ n. bit_at n (i - from)) (sym u.left ∙ none) ∙ bit_at-zero (i - from))) u.gathered

pub united_past : (rows : List ℕ) (set r from rest union reach gap : ℕ) → from ≤ reach → reach ≤ from + gap → ((i : ℕ) → i < gap → bit_at rest i ≡ 0) → IsUnited rows set r from rest union → Gathers rows set r reach union
united_past rows set r from rest union reach gap within past none u =
    gathers_gap rows set r from reach union within (λ i above below. no_member set from i above (ap (λ n. bit_at n (i - from)) (sym u.left) ∙ none (i - from) (omega arith))) u.gathered

-- one member more
pub united_more : (rows : List ℕ) (set r from rest union gap : ℕ) → bit_at rest gap ≡ 1 → ((i : ℕ) → i < gap → bit_at rest i ≡ 0) → IsUnited rows set r from rest union
    → IsUnited rows set r (from + gap + 1) (rest / 2 ^ gap / 2 ^ 1) (bit_or union (get_or rows (2 * (from + gap) + r) 0))
united_more rows set r from rest union gap one none u =
    let member : has set (from + gap) ≡ true = ap (λ b. eqb b 1) (sym (shifted set from gap) ∙ ap (λ n. bit_at n gap) (sym u.left) ∙ one) in
    let before : Gathers rows set r (from + gap) union =
    gathers_gap rows set r from (from + gap) union (omega arith) (λ i above below. no_member set from i above (ap (λ n. bit_at n (i - from)) (sym u.left) ∙ none (i - from) (omega arith))) u.gathered in
    record {
      left = ap (λ n. n / 2 ^ gap / 2 ^ 1) u.left ∙ ap (λ n. n / 2 ^ 1) (shr-shr set from gap) ∙ shr-shr set (from + gap) 1;
      gathered = gathers_more rows set r (from + gap) union member before;
    }

pub less_left : (rest gap : ℕ) → 0 < rest → rest / 2 ^ gap / 2 ^ 1 < rest
less_left rest gap some = let part : rest / 2 ^ gap ≤ rest = div-le_self rest (2 ^ gap) in omega (arith, part, some)

-- a set is a part of another where the union of both is that one
pub part_from : (a b : ℕ) → bit_or a b ≡ b → IsPart a b
part_from a b is = record { each = λ k member. subst (λ n. IsTrue (has n k)) is (has_left a b k member) }

pub part_union : (a b : ℕ) → IsPart a b → bit_or a b ≡ b
part_union a b part = same_from_bits (bit_or a b) b (λ k.
    let either = bit_at_or a b k in
    let small = bit_at-lt a k in
    let small' = bit_at-lt b k in
    elim (cases_eq (bit_at a k) 1) [
      | inl one ↦ let two = bit_of b k (part.each k (member_of a k one)) in omega arith
      | inr zero ↦ omega arith
    ])

-- Numbers that hold what each state of the second automaton asks for describe automata of the table.

-- the union of the rows of a set's members is what they reach, the halt state apart
pub reaches_iff : (a : Automata) (rows : List ℕ) (set row union r reach : ℕ) (s : Sym) (part : Bool) → rows ≡ a.rows → r ≡ symbol_number s → reach ≡ last a → Gathers rows set r reach union
    → (IsTrue (has set (last a)) → IsTrue (has row (last a))) → (IsTrue part ↔ IsPart union row) → IsTrue part ↔ ReachesIn a set s row
reaches_iff a rows set row union r reach s part same_rows same_r same_reach g halt is =
    let h : Gathers a.rows set (symbol_number s) (last a) union =
    subst (λ x. Gathers a.rows set (symbol_number s) x union) same_reach (subst (λ x. Gathers a.rows set x reach union) same_r (subst (λ x. Gathers x set r reach union) same_rows g)) in (
      λ t. record { pairs = λ j k below member at. (is.0 t).each k (h.all j k below member at); halt = halt },
      λ reaches. is.1 (record { each = λ k at. let (j, below, member, edge) = h.only k at in reaches.pairs j k below member edge }),
    )

module _ (a : Automata) (some : 1 ≤ a.states) (numbers : AreAutomata a) where
  -- the number of a pair, and the pair of a number
  number_below : (q f : ℕ) → q < a.size → f < a.states → q * a.states + f < last a
  number_below q f small within = let below = mul-add-lt q a.states f a.size small within in let turned = mul_comm a.states a.size in omega arith

  pair_at : (q f : ℕ) → q < a.size → f < a.states → IsTrue (is_node a (At q f))
  pair_at q f small within = and_from (nat_lt q a.size) (nat_lt f a.states) (lt-ltb q a.size small) (lt-ltb f a.states within)

  first_small : (q f : ℕ) → IsTrue (is_node a (At q f)) → q < a.size
  first_small q f is = ltb-true q a.size (and_parts (nat_lt q a.size) (nat_lt f a.states) is).0

  second_small : (q f : ℕ) → IsTrue (is_node a (At q f)) → f < a.states
  second_small q f is = ltb-true f a.states (and_parts (nat_lt q a.size) (nat_lt f a.states) is).1

  node_in : (set : ℕ) (v : Node) → IsTrue (has_node a set v) → IsTrue (has set (node_number a v))
  node_in set v is = (and_parts (is_node a v) (has set (node_number a v)) is).1

  node_of : (set : ℕ) (v : Node) → IsTrue (has_node a set v) → IsTrue (is_node a v)
  node_of set v is = (and_parts (is_node a v) (has set (node_number a v)) is).0

  node_from : (set : ℕ) (v : Node) → IsTrue (is_node a v) → IsTrue (has set (node_number a v)) → IsTrue (has_node a set v)
  node_from set v is member = and_from (is_node a v) (has set (node_number a v)) is member

  -- what is reached, node by node
  reached : (set row : ℕ) (s : Sym) → ReachesIn a set s row → (u v : Node) → IsTrue (has_node a set u) → IsTrue (has_edge a u s v) → IsTrue (has_node a row v)
  reached set row s reaches Halt Halt member edge = node_from row Halt refl (reaches.halt (node_in set Halt member))
  reached set row s reaches Halt (At q f) member edge = absurd (both_ways false refl edge)
  reached set row s reaches (At q f) v member edge =
      let pair = node_of set (At q f) member in
      let to = (and_parts (is_node a (At q f)) (has_node a (row_at a (q * a.states + f) s) v) edge).1 in
      node_from row v (node_of (row_at a (q * a.states + f) s) v to)
      (reaches.pairs (q * a.states + f) (node_number a v) (number_below q f (first_small q f pair) (second_small q f pair)) (node_in set (At q f) member) (node_in (row_at a (q * a.states + f) s) v to))

  -- a number below the last is that of a pair
  first_of : (j : ℕ) → j < last a → j / a.states < a.size
  first_of j below = div_below j a.states a.size (omega arith) below

  second_of : (j : ℕ) → j % a.states < a.states
  second_of j = mod_below j a.states (omega arith)

  joined : (j : ℕ) → j / a.states * a.states + j % a.states ≡ j
  joined j = div-add-mod' j a.states

  within_last : (j k : ℕ) (s : Sym) → IsTrue (has (row_at a j s) k) → k ≤ last a
  within_last j k s at = elim (cases_lt (last a) k) [
    | inr fits ↦ fits
    | inl past ↦
        let one = bit_of (row_at a j s) k at in
        let none = bit_at_above (row_at a j s) (last a + 1) k (numbers.sets (2 * j + symbol_number s)) (omega arith) in
        absurd (omega arith)
  ]

  reaches_by : (set row : ℕ) (s : Sym) → ((u v : Node) → IsTrue (has_node a set u) → IsTrue (has_edge a u s v) → IsTrue (has_node a row v)) → ReachesIn a set s row
  reaches_by set row s nodes = record {
    halt = λ member. node_in row Halt (nodes Halt Halt (node_from set Halt refl member) refl);
    pairs = λ j k below member at.
        let u : Node = At (j / a.states) (j % a.states) in
        let pair = pair_at (j / a.states) (j % a.states) (first_of j below) (second_of j) in
        let in_set : IsTrue (has_node a set u) = node_from set u pair (subst (λ n. IsTrue (has set n)) (sym (joined j)) member) in
        let edge = λ (v : Node) (is : IsTrue (is_node a v)) (to : IsTrue (has (row_at a j s) (node_number a v))).
        and_from (is_node a u) (has_node a (row_at a (j / a.states * a.states + j % a.states) s) v) pair
        (node_from (row_at a (j / a.states * a.states + j % a.states) s) v is (subst (λ n. IsTrue (has (row_at a n s) (node_number a v))) (sym (joined j)) to)) in
        elim (cases_eq k (last a)) [
          | inl same ↦ subst (λ n. IsTrue (has row n)) (sym same) (node_in row Halt (nodes u Halt in_set (edge Halt refl (subst (λ n. IsTrue (has (row_at a j s) n)) same at))))
          | inr other ↦
              let small = within_last j k s at in
              let v : Node = At (k / a.states) (k % a.states) in
              let is = pair_at (k / a.states) (k % a.states) (first_of k (omega arith)) (second_of k) in
              subst (λ n. IsTrue (has row n)) (joined k) (node_in row v (nodes u v in_set (edge v is (subst (λ n. IsTrue (has (row_at a j s) n)) (sym (joined k)) at))))
        ];
  }

  module _ (p : Packed) (table : IsTable p) (same : a.states ≡ p.states) where
    next_small : (f : ℕ) (r : Sym) (e : Entry) → entry_of p f r ≡ Some e → e.next.0 < a.states
    next_small f r e is = let below = (table_machine p table).inside f r e is in omega arith

    fits_by : EachFits (entry_of p) a (last a) → (q f : ℕ) (r : Sym) → q < a.size → f < a.states → FitsBy (entry_of p f r) a q f r
    unfolding FitsPair
    fits_by each q f r small within = subst (λ (i : ℕ). FitsPair (entry_of p) a i f r) (div-mul-add q a.states f within)
        (subst (λ (i : ℕ). FitsPair (entry_of p) a ((q * a.states + f) / a.states) i r) (mod-mul-add q a.states f within) (at r))
      where
        at : (r : Sym) → FitsPair (entry_of p) a ((q * a.states + f) / a.states) ((q * a.states + f) % a.states) r
        at Zero = each.zero (q * a.states + f) (number_below q f small within)
        at One = each.one (q * a.states + f) (number_below q f small within)

    back_by : (q f : ℕ) (r b : Sym) (e : Entry) → FitsEntry a q f r e → (e.dir ≡ a.side → ⊥) → ReachesIn a (row_at a (q * a.states + e.next.0) b) e.write (row_at a (target a q b * a.states + f) r)
    back_by q f r Zero e fits back = fits.back_zero back
    back_by q f r One e fits back = fits.back_one back

    pub automata_from : 1 ≤ a.size → KeepsBlank a → EachFits (entry_of p) a (last a) → AreAutomataOf a p
    unfolding described
    automata_from sized keeps each = record {
      states = same;
      fits = record {
        some = sized;
        states = λ q s small. numbers.targets (2 * q + symbol_number s);
        blank = keeps.blank;
        halted = λ s. refl;
        halting = λ q f r small within none.
            let pair = pair_at q f small (omega arith) in
            and_from (is_node a (At q f)) (has_node a (row_at a (q * a.states + f) r) Halt) pair
            (node_from (row_at a (q * a.states + f) r) Halt refl (subst (λ o. FitsBy o a q f r) none (fits_by each q f r small (omega arith))));
        ahead = λ q f r e small within is ahead.
            let pair = pair_at q f small (omega arith) in
            let fits : FitsEntry a q f r e = subst (λ o. FitsBy o a q f r) is (fits_by each q f r small (omega arith)) in
            and_from (is_node a (At q f)) (has_node a (row_at a (q * a.states + f) r) (At (target a q e.write) e.next.0)) pair
            (node_from (row_at a (q * a.states + f) r) (At (target a q e.write) e.next.0)
            (pair_at (target a q e.write) e.next.0 (numbers.targets (2 * q + symbol_number e.write)) (next_small f r e is)) (fits.ahead ahead));
        back = λ q f r b e u v small within is back first second.
            let fits : FitsEntry a q f r e = subst (λ o. FitsBy o a q f r) is (fits_by each q f r small (omega arith)) in
            let read = (and_parts (is_node a (At q e.next.0)) (has_node a (row_at a (q * a.states + e.next.0) b) u) first).1 in
            and_from (is_node a (At (target a q b) f)) (has_node a (row_at a (target a q b * a.states + f) r) v)
            (pair_at (target a q b) f (numbers.targets (2 * q + symbol_number b)) (omega arith))
            (reached (row_at a (q * a.states + e.next.0) b) (row_at a (target a q b * a.states + f) r) e.write (back_by q f r b e fits back) u v read second);
        start_kept = node_from a.keep (At 0 0) (pair_at 0 0 sized some) (subst (λ n. IsTrue (has a.keep n)) (let e : 0 ≡ 0 * a.states + 0 = omega arith in e) keeps.start);
        blank_kept = λ u v member edge. reached a.keep a.keep Zero keeps.kept u v member edge;
        halt_not_kept = keeps.halt;
      };
    }

    module _ (of : AreAutomataOf a p) where
      pub blank_from : KeepsBlank a
      unfolding described
      blank_from = record {
        blank = of.fits.blank;
        start = subst (λ n. IsTrue (has a.keep n)) (let e : 0 * a.states + 0 ≡ 0 = omega arith in e) (node_in a.keep (At 0 0) of.fits.start_kept);
        halt = of.fits.halt_not_kept;
        kept = reaches_by a.keep a.keep Zero of.fits.blank_kept;
      }

      back_at : (q f : ℕ) (r b : Sym) (e : Entry) → q < a.size → f < a.states → entry_of p f r ≡ Some e → (e.dir ≡ a.side → ⊥) →
          ReachesIn a (row_at a (q * a.states + e.next.0) b) e.write (row_at a (target a q b * a.states + f) r)
      unfolding described
      back_at q f r b e small within is back = reaches_by (row_at a (q * a.states + e.next.0) b) (row_at a (target a q b * a.states + f) r) e.write (λ u v first second.
          let edge = of.fits.back q f r b e u v small (omega arith) is back
          (and_from (is_node a (At q e.next.0)) (has_node a (row_at a (q * a.states + e.next.0) b) u) (pair_at q e.next.0 small (next_small f r e is)) first) second in
          (and_parts (is_node a (At (target a q b) f)) (has_node a (row_at a (target a q b * a.states + f) r) v) edge).1)

      by_entry : (q f : ℕ) (r : Sym) (o : Option Entry) → q < a.size → f < a.states → entry_of p f r ≡ o → FitsBy o a q f r
      unfolding described
      by_entry q f r None small within is =
          let edge = of.fits.halting q f r small (omega arith) is in
          node_in (row_at a (q * a.states + f) r) Halt (and_parts (is_node a (At q f)) (has_node a (row_at a (q * a.states + f) r) Halt) edge).1
      by_entry q f r (Some e) small within is = record {
        ahead = λ ahead.
            let edge = of.fits.ahead q f r e small (omega arith) is ahead in
            node_in (row_at a (q * a.states + f) r) (At (target a q e.write) e.next.0) (and_parts (is_node a (At q f)) (has_node a (row_at a (q * a.states + f) r) (At (target a q e.write) e.next.0)) edge).1;
        back_zero = λ back. back_at q f r Zero e small within is back;
        back_one = λ back. back_at q f r One e small within is back;
      }

      pub each_from : EachFits (entry_of p) a (last a)
      unfolding FitsPair
      each_from = record {
        zero = λ j below. by_entry (j / a.states) (j % a.states) Zero (entry_of p (j % a.states) Zero) (first_of j below) (second_of j) refl;
        one = λ j below. by_entry (j / a.states) (j % a.states) One (entry_of p (j % a.states) One) (first_of j below) (second_of j) refl;
      }
