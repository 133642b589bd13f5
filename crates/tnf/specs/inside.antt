-- What only the code needs: which states an entry uses, and the children that are left, from one on.
use Rattle.std.specs.Prelude.{ℕ, ◌-◌, ◌==◌, ◌||◌, ◌++◌, Bool, false, List, [], map, Option, Some, None}
use Rattle.std.specs.List.{range_with_len}
use Rattle.machine_text.specs.declared.table.Sym.{Sym}
use Rattle.machine_text.specs.declared.table.Sym.TheVariants.{Zero, One}
use Rattle.machine_text.specs.declared.table.Dir.{Dir}
use Rattle.machine_text.specs.declared.table.Dir.TheVariants.{L, R}
use Rattle.machine_text.specs.declared.table.Entry.{Entry}
use Rattle.machine_text.specs.Terms.{Packed, with_entry}
use Rattle.law_tree.specs.Terms.{entries_to}

-- whether an entry of state number p, if there is one, uses a state: p itself and its target
abbrev pub is_named : ℕ → Option Entry → ℕ → Bool
is_named p None q = false
is_named p (Some e) q = (q == p) || (e.next.0 == q)

-- the entries that write 1 and come after those that move in a direction, and all of them
abbrev pub ones_after : ℕ → Dir → List Entry
ones_after targets L = entries_to targets One R
ones_after targets R = []

abbrev pub ones_from : ℕ → Dir → List Entry
ones_from targets first = entries_to targets One first ++ ones_after targets first

-- the entries that come after those that write a symbol and move in a direction
abbrev pub entries_after : ℕ → Dir → Sym → Dir → List Entry
entries_after targets first One d = ones_after targets d
entries_after targets first Zero R = ones_from targets first
entries_after targets first Zero L = entries_to targets Zero R ++ ones_from targets first

-- the entries from one on, in the order of their texts, to the states below `targets`; `first` is the direction
-- that comes first: L, or R where there is no other
unfoldable pub entries_left : ℕ → Dir → Option Entry → List Entry
entries_left targets first None = []
entries_left targets first (Some e) =
    map (λ q. record { write = e.write; dir = e.dir; next = record { 0 = q } })
    (range_with_len e.next.0 (targets - e.next.0))
    ++ entries_after targets first e.write e.dir

-- the tables that have those entries at a pair
unfoldable pub tables_left : Packed → ℕ → Sym → ℕ → Dir → Option Entry → List Packed
tables_left p q s targets first next = map (with_entry p q s) (entries_left targets first next)
