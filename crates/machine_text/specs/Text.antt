-- The text of a table, and why a text is no table.
use Rattle.std.specs.Prelude.{ℕ, Option, Some, None, ◌+◌, ◌-◌, ◌*◌, ◌/◌, ◌%◌, ◌==◌, ◌&&◌, ◌||◌, nat_lt, nat_le, Bool, if◌then◌else◌, List, [], ◌∷◌, ◌++◌, Result, Ok, Err, slice_index, length, map}
use Rattle.std.specs.List.{range_with_len, filter_map, join_with_byte}
use Rattle.machine_text.specs.declared.grammar.TextFault.{TextFault}
use Rattle.machine_text.specs.declared.grammar.TextFault.TheVariants.{BadLength, BadBar, BadSymbol, BadDir, BadState}
use Rattle.machine_text.specs.Limits.{state_limit}
use Rattle.machine_text.specs.declared.table.Sym.{Sym}
use Rattle.machine_text.specs.declared.table.Sym.TheVariants.{Zero, One}
use Rattle.machine_text.specs.declared.table.Dir.{Dir}
use Rattle.machine_text.specs.declared.table.Dir.TheVariants.{L, R}
use Rattle.machine_text.specs.declared.table.Entry.{Entry}
use Rattle.machine_text.specs.Packed.{Packed, symbol_number, entry_of, tabulated}

-- The refusal number of each fault of a text, and its place.
abbrev pub text_fault_number : TextFault → ℕ
text_fault_number BadLength = 101
text_fault_number (BadBar i) = 102
text_fault_number (BadSymbol i) = 103
text_fault_number (BadDir i) = 104
text_fault_number (BadState i) = 105

abbrev pub place_of : TextFault → Option ℕ
place_of BadLength = None
place_of (BadBar i) = Some i
place_of (BadSymbol i) = Some i
place_of (BadDir i) = Some i
place_of (BadState i) = Some i

-- The text of a table in the bbchallenge standard format, which table a text names, and why a text is no
-- table. Bytes are their ASCII codes: 45 `-`, 48 `0`, 49 `1`, 65 `A`, 72 `H`, 76 `L`, 82 `R`, 90 `Z`, 95 `_`.
abbrev pub symbol_byte : Sym → ℕ
symbol_byte Zero = 48
symbol_byte One = 49

abbrev pub direction_byte : Dir → ℕ
direction_byte L = 76
direction_byte R = 82

-- the three bytes of an entry; an undefined one is `---`
abbrev pub entry_text : Option Entry → List ℕ
entry_text None = 45 ∷ 45 ∷ 45 ∷ []
entry_text (Some e) = symbol_byte e.write ∷ direction_byte e.dir ∷ (65 + e.next.0) ∷ []

-- the row of a state: its entry at 0, then its entry at 1
abbrev pub row_text : Packed → ℕ → List ℕ
row_text p q = entry_text (entry_of p q Zero) ++ entry_text (entry_of p q One)

-- the text of a table: its rows, with `_` between each two
unfoldable pub text_of : Packed → List ℕ
text_of p = join_with_byte 95 (map (row_text p) (range_with_len 0 p.states))

-- how many states a text of this many bytes has, where it has a table's length
abbrev pub states_in : ℕ → ℕ
states_in len = (len + 1) / 7

abbrev pub is_table_length : ℕ → Bool
is_table_length len = (7 * states_in len == len + 1) && (nat_le 1 (states_in len) && nat_le (states_in len) state_limit)

-- what may stand first in an entry; second, after that first byte; third, after that first byte
abbrev pub may_begin : ℕ → Bool
may_begin byte = (byte == 48) || ((byte == 49) || (byte == 45))

abbrev pub may_direct : ℕ → ℕ → Bool
may_direct begun byte = if begun == 45 then byte == 45 else ((byte == 76) || (byte == 82))

abbrev pub is_state_letter : ℕ → ℕ → Bool
is_state_letter n byte = nat_le 65 byte && nat_lt byte (65 + n)

abbrev pub may_end : ℕ → ℕ → ℕ → Bool
may_end n begun byte = if begun == 45 then byte == 45 else (is_state_letter n byte || ((byte == 90) || (byte == 72)))

abbrev pub unless : Bool → TextFault → Option TextFault
unless b f = if b then None else Some f

-- the fault at a place of a text of n states, if there is one
unfoldable pub fault_at : ℕ → List ℕ → ℕ → Option TextFault
fault_at n text i =
    let byte = slice_index text i in
    if i % 7 == 6 then unless (byte == 95) (BadBar i)
    else if i % 7 % 3 == 0 then unless (may_begin byte) (BadSymbol i)
    else if i % 7 % 3 == 1 then unless (may_direct (slice_index text (i - 1)) byte) (BadDir i)
    else unless (may_end n (slice_index text (i - 2)) byte) (BadState i)

-- the faults of a text of n states, from left to right
unfoldable pub faults_of : ℕ → List ℕ → List TextFault
faults_of n text = filter_map (fault_at n text) (range_with_len 0 (length text))

-- the entry that the three bytes from a place on name: `Z`, `H` and `-` in the third name none
unfoldable pub entry_named : ℕ → List ℕ → ℕ → Option Entry
entry_named n text i =
    if is_state_letter n (slice_index text (i + 2)) then Some (record {
      write = if slice_index text i == 48 then Zero else One;
      dir = if slice_index text (i + 1) == 76 then L else R;
      next = record { 0 = slice_index text (i + 2) - 65 };
    }) else None

-- the table that a text of n states without a fault names
abbrev pub table_named : ℕ → List ℕ → Packed
table_named n text = tabulated n (λ q s. entry_named n text (7 * q + 3 * symbol_number s))

-- a table where there is no fault, otherwise the leftmost fault
abbrev pub unless_faulty : List TextFault → Packed → Result Packed TextFault
unless_faulty [] p = Ok p
unless_faulty (f ∷ others) p = Err f

-- what a text is read as: its length is judged first
unfoldable pub table_of : List ℕ → Result Packed TextFault
table_of text =
    if is_table_length (length text) then unless_faulty (faults_of (states_in (length text)) text)
    (table_named (states_in (length text)) text)
    else Err BadLength
