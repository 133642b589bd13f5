-- The children of a table, and the states that a machine uses.
use Rattle.std.specs.Prelude.{◌≡◌, ◌↔◌, ℕ, ◌<◌, List, length, AllPairs, Contains, ◌≤◌}
use Rattle.law_turing.specs.Terms.{Machine}
use Rattle.law_tree.specs.Terms.{IsUsed, IsChildEntry}
use Rattle.machine_text.specs.declared.table.Sym.{Sym}
use Rattle.machine_text.specs.declared.table.Entry.{Entry}
use Rattle.machine_text.specs.Terms.{Packed, entry_of, with_entry, holes}

-- How many states a machine uses.

-- k is the number of used states: they can be listed without repetition, and the list has k of them
pub record IsNumberOfUsed (k : ℕ) (m : Machine) : Type 0 where
  pub states : List ℕ
  pub rising : AllPairs (λ a b. a < b) states
  pub members : (q : ℕ) → Contains states q ↔ IsUsed m q
  pub number : k ≡ length states

-- The children of a table at a pair.

-- t is a child of p at a pair, where the first u states are used: at least two pairs are undefined, and the pair gets
-- an entry to a used state or the first unused one, to the right where p is empty
pub record IsChildAt (p : Packed) (u q : ℕ) (s : Sym) (t : Packed) : Type 0 where
  pub undefined : 2 ≤ holes p.states (entry_of p)
  pub entry : Entry
  pub is_entry : IsChildEntry p.states u (entry_of p) entry
  pub is : t ≡ with_entry p q s entry
