-- When a machine of `BusyBeaver` and one of law_turing's `Machine` are the same one, written in two ways.
use Rattle.std.specs.Prelude.{◌≡◌, ℕ, Option, Some, None}
use Rattle.machine_text.specs.declared.table.Sym.{Sym}
use Rattle.machine_text.specs.declared.table.Sym.TheVariants as sym_of
use Rattle.machine_text.specs.declared.table.Dir.{Dir}
use Rattle.machine_text.specs.declared.table.Dir.TheVariants as dir_of
use Rattle.machine_text.specs.declared.table.Entry.{Entry}
use Rattle.law_turing.specs.Terms.{Machine}
use Rattle.law_rado.specs.BusyBeaver.{Symbol, Blank, One, Direction, Left, Right, Action, TuringMachine}

abbrev pub as_sym : Symbol → Sym
as_sym Blank = sym_of.Zero
as_sym One = sym_of.One

abbrev pub as_dir : Direction → Dir
as_dir Left = dir_of.L
as_dir Right = dir_of.R

abbrev pub as_entry : Action → Entry
as_entry a = record { write = as_sym a.write; dir = as_dir a.move; next = record { 0 = a.next } }

abbrev pub as_entry_where : Option Action → Option Entry
as_entry_where None = None
as_entry_where (Some a) = Some (as_entry a)

-- they do the same in each state on each symbol
abbrev pub IsSameMachine : TuringMachine → Machine → Type 0
IsSameMachine t m = (q : ℕ) (s : Symbol) → m q (as_sym s) ≡ as_entry_where (t q s)
