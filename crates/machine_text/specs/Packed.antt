-- What a table is, and the order of tables.
use Rattle.std.specs.Prelude.{◌≡◌, ℕ, zero, suc, ◌+◌, ◌-◌, ◌*◌, ◌/◌, ◌%◌, ◌<◌, ◌≤◌, ◌==◌, ◌&&◌, Bool, true, false, if◌then◌else◌, List, Option, Some, None, IfSome, slice_index, length, map}
use Rattle.std.specs.List.{range_with_len}
use Rattle.std.specs.Ordering.{nat_cmp, on, then_cmp, is_eq, ordering_then}
use Rattle.std.specs.declared.cmp.Ordering.{Ordering}
use Rattle.std.specs.Cmp.Lexicographic.{slice_cmp, pointwise, texts_ties}
use Rattle.std.proofs.Common.{refl, ◌∙◌, ap, nat_eq}
use Rattle.std.specs.declared.cmp.Ordering.TheVariants.{Less, Equal, Greater}
use Rattle.std.specs.Cmp.{unsigned_ties}
use Rattle.machine_text.specs.Limits.{state_limit}
use Rattle.machine_text.specs.declared.table.Sym.{Sym}
use Rattle.machine_text.specs.declared.table.Sym.TheVariants.{Zero, One}
use Rattle.machine_text.specs.declared.table.Dir.{Dir}
use Rattle.machine_text.specs.declared.table.Dir.TheVariants.{L, R}
use Rattle.machine_text.specs.declared.table.Entry.{Entry}

-- What a table is: a number of states, and a finite map from pairs (state, symbol read) to entries.
-- A table is stored with one number for each pair; `entry_of` is the map, and all else is said by it.

-- the number of a symbol, and the symbol of a number
abbrev pub symbol_number : Sym → ℕ
symbol_number Zero = 0
symbol_number One = 1

abbrev pub symbol_of : ℕ → Sym
symbol_of k = if k == 0 then Zero else One

abbrev pub direction_number : Dir → ℕ
direction_number L = 0
direction_number R = 1

abbrev pub direction_of : ℕ → Dir
direction_of k = if k == 0 then L else R

-- how an entry is packed: 0 for none, otherwise the symbol, the direction and the next state, plus one;
-- so codes rise as the texts of the entries do
abbrev pub code_of : Option Entry → ℕ
code_of None = 0
code_of (Some e) = 16 * symbol_number e.write + 8 * direction_number e.dir + e.next.0 + 1

abbrev pub coded_entry : ℕ → Option Entry
coded_entry k =
    if k == 0 then None
    else Some (record {
      write = symbol_of ((k - 1) / 16);
      dir = direction_of ((k - 1) / 8 % 2);
      next = record
          { 0 = (k - 1) % 8 };
    })

-- a table as it is stored: the codes of A0, A1, B0, B1, .., and the number of states
pub record Packed : Type 0 where
  pub codes : List ℕ
  pub states : ℕ

-- the place of a pair among the codes
abbrev pub pair_place : ℕ → Sym → ℕ
pair_place q s = 2 * q + symbol_number s

-- the map: the entry of state number q at the symbol s, or none
unfoldable pub entry_of : Packed → ℕ → Sym → Option Entry
entry_of p q s = coded_entry (slice_index p.codes (pair_place q s))

-- the table of n states that has the entries of a map (which has none at the states from n on)
unfoldable pub tabulated : ℕ → (ℕ → Sym → Option Entry) → Packed
tabulated n m = record {
  codes = map (λ k. code_of (m (k / 2) (symbol_of (k % 2)))) (range_with_len 0 (2 * state_limit));
  states = n;
}

-- a map that a table of n states can have: none but these states have entries, and their next states are among them
pub record IsMapOf (n : ℕ) (m : ℕ → Sym → Option Entry) : Type 0 where
  pub some : 1 ≤ n
  pub limit : n ≤ state_limit
  pub beyond : (q : ℕ) (s : Sym) → n ≤ q → m q s ≡ None
  pub inside : (q : ℕ) (s : Sym) → IfSome (m q s) (λ e. e.next.0 < n)

abbrev pub same_symbol : Sym → Sym → Bool
same_symbol Zero Zero = true
same_symbol Zero One = false
same_symbol One Zero = false
same_symbol One One = true

-- the map with an entry at the pair of state number p and the symbol r, and otherwise as before
unfoldable pub filled : (ℕ → Sym → Option Entry) → ℕ → Sym → Entry → ℕ → Sym → Option Entry
filled m p r e = λ q s. if (q == p) && same_symbol s r then Some e else m q s

-- the table with one more entry, or another one, at a pair
unfoldable pub with_entry : Packed → ℕ → Sym → Entry → Packed
with_entry p q s e = tabulated p.states (filled (entry_of p) q s e)

-- the table of n states in which every pair is undefined
abbrev pub empty_table : ℕ → Packed
empty_table n = tabulated n (λ q s. None)

-- what is true of each table: the number of states is within the limit, each next state is one of them,
-- and no pair beyond them has an entry
pub record IsTable (p : Packed) : Type 0 where
  pub some : 1 ≤ p.states
  pub limit : p.states ≤ state_limit
  pub size : length p.codes ≡ 2 * state_limit
  pub codes : (k : ℕ) → slice_index p.codes k ≤ 32
  pub nexts : (k : ℕ) → 0 < slice_index p.codes k → (slice_index p.codes k - 1) % 8 < p.states
  pub beyond : (k : ℕ) → 2 * p.states ≤ k → slice_index p.codes k ≡ 0

-- how many of a map's pairs at the first n states are undefined
abbrev pub hole : Option Entry → ℕ
hole None = 1
hole (Some e) = 0

unfoldable pub holes : ℕ → (ℕ → Sym → Option Entry) → ℕ
holes zero m = 0
holes (suc n) m = hole (m n Zero) + hole (m n One) + holes n m

-- The order of tables: that of their texts, where they have as many states.
abbrev pub table_cmp : Packed → Packed → Ordering
table_cmp = then_cmp (on (λ t. t.codes) (slice_cmp nat_cmp)) (on (λ t. t.states) nat_cmp)

-- Tables tie exactly where they are the same.
both_tie : (r s : Ordering) → (is_eq r && is_eq s) ≡ is_eq (ordering_then r s)
both_tie Less s = refl
both_tie Equal s = refl
both_tie Greater s = refl

pub table_ties : (x y : Packed) → (pointwise nat_eq x.codes y.codes && nat_eq x.states y.states) ≡ is_eq (table_cmp x y)
table_ties x y =
    ap (λ b. b && nat_eq x.states y.states) (texts_ties x.codes y.codes)
    ∙ ap (λ b. is_eq (slice_cmp nat_cmp x.codes y.codes) && b) (unsigned_ties x.states y.states)
    ∙ both_tie (slice_cmp nat_cmp x.codes y.codes) (nat_cmp x.states y.states)
