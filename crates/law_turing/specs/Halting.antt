-- Halting and its score.
use Rattle.std.specs.Prelude.{◌≡◌, ℕ, suc, ◌≤◌, Some, None, zero, Option}
use Rattle.std.specs.FinSet as set
use Rattle.machine_text.specs.declared.table.Sym.{Sym}
use Rattle.law_turing.specs.Run.{Machine, IsMachine, symbol_read, Config, next, after}

-- Halting, what is true of a machine, and Radó's number. The halting step counts (Radó 1962): a run that
-- comes to a halting pair after k steps halts in k + 1.

-- the run from the blank tape halts in k steps
pub record HaltsAt (m : Machine) (k : ℕ) : Type 0 where
  pub last : ℕ
  pub at : Config
  pub is : after m last ≡ Some at
  pub over : next m at ≡ None
  pub count : k ≡ suc last

-- the run from the blank tape halts in k steps, on the pair of state number q and the symbol s
pub record HaltsOn (m : Machine) (k q : ℕ) (s : Sym) : Type 0 where
  pub halts : HaltsAt m k
  pub state : halts.at.state ≡ q
  pub symbol : symbol_read halts.at.tape ≡ s

-- the run from the blank tape never halts
abbrev pub Never : Machine → Type 0
Never m = (k : ℕ) → HaltsAt m k → ⊥

-- s is the greatest number of steps in which a machine of n states halts: S(n) (Radó 1962)
pub record IsRado (n s : ℕ) : Type 0 where
  pub champion : Machine
  pub is_machine : IsMachine n champion
  pub halts : HaltsAt champion s
  pub greatest : (m : Machine) (k : ℕ) → IsMachine n m → HaltsAt m k → k ≤ s

-- The score of a halting run: the number of ones on its tape after the halting step (Radó 1962).

-- the ones after the halting step from a configuration: that step writes a one
abbrev pub score_of : Config → ℕ
score_of c = set.len (set.insert c.tape.ones c.tape.head)

-- the run from the blank tape halts in k steps, and its score is s
pub record HaltsWith (m : Machine) (k s : ℕ) : Type 0 where
  pub halts : HaltsAt m k
  pub score : s ≡ score_of halts.at

-- the score of a configuration of a run, where there is one
abbrev pub score_where : Option Config → ℕ
score_where None = 0
score_where (Some c) = score_of c

-- the score of a run that halts in k steps, by the configuration before the last of them
abbrev pub score_at : Machine → ℕ → ℕ
score_at m zero = 0
score_at m (suc k) = score_where (after m k)
