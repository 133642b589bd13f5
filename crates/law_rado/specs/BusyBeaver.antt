-- What S(n) and Σ(n) are (Radó 1962), whole: all that stands here is made of whole numbers and options.
-- judge/BusyBeaver.v has the same definitions in Coq, one by one, in this order.
-- How to read it: `(x : A) → B` is "for each x of A, B", and `A → B` also the functions from A to B; `(x : A) × B` is
-- "there is an x of A with B", `A × B` is "A and B", `≡` "is equal to"; `Type 0` has the types and the statements.
-- ℕ has `zero` and `suc k`, which is k + 1; ℤ has all whole numbers, `pos k` is k as one of them, and `int_eq` tells
-- whether two are equal. `Some a` is a, `None` is nothing. `λ x. ..` is a function of x, `c.state` a field of c.
use Rattle.std.specs.Prelude.{◌≡◌, ℕ, zero, suc, ◌<◌, ◌≤◌, ℤ, pos, ◌+ℤ◌, ◌-ℤ◌, if◌then◌else◌, Option, Some, None}
use Rattle.std.specs.Ordering.{int_eq}

-- what a cell of the tape holds
pub data Symbol : Type 0 where
  Blank : Symbol
  One : Symbol

pub data Direction : Type 0 where
  Left : Direction
  Right : Direction

-- what a machine does: it writes a symbol, moves its head by one cell, and goes to a state
pub record Action : Type 0 where
  pub write : Symbol
  pub move : Direction
  pub next : ℕ

-- a Turing machine: what it does in a state on a symbol. Where it has no action, it halts
abbrev pub TuringMachine : Type 0
TuringMachine = ℕ → Symbol → Option Action

-- a machine of n states, which are the numbers below n
pub record HasStates (n : ℕ) (m : TuringMachine) : Type 0 where
  pub some : 1 ≤ n
  pub inside : (q : ℕ) (s : Symbol) (a : Action) → m q s ≡ Some a → (q < n) × (a.next < n)

-- a tape has a cell for each whole number
abbrev pub TapeOf : Type 0
TapeOf = ℤ → Symbol

pub record Configuration : Type 0 where
  pub state : ℕ
  pub head : ℤ
  pub tape : TapeOf

-- state 0 on the blank tape
abbrev pub first_configuration : Configuration
first_configuration = record { state = 0; head = pos 0; tape = λ x. Blank }

-- a tape with a symbol written at a place
abbrev pub with_symbol : TapeOf → ℤ → Symbol → TapeOf
with_symbol tape x s = λ y. if int_eq y x then s else tape y

abbrev pub beside : ℤ → Direction → ℤ
beside x Left = x -ℤ pos 1
beside x Right = x +ℤ pos 1

abbrev pub acted : Configuration → Action → Configuration
acted c a = record { state = a.next; head = beside c.head a.move; tape = with_symbol c.tape c.head a.write }

abbrev pub acted_by : Configuration → Option Action → Option Configuration
acted_by c None = None
acted_by c (Some a) = Some (acted c a)

-- what the machine does in a configuration
abbrev pub action_in : TuringMachine → Configuration → Option Action
action_in m c = m c.state (c.tape c.head)

-- the configuration one step later, where there is one
abbrev pub stepped_from : TuringMachine → Option Configuration → Option Configuration
stepped_from m None = None
stepped_from m (Some c) = acted_by c (action_in m c)

-- the configuration after k steps from the first
abbrev pub after_steps : TuringMachine → ℕ → Option Configuration
after_steps m zero = Some first_configuration
after_steps m (suc k) = stepped_from m (after_steps m k)

-- it halts in k steps: after k - 1 of them it has no action, and the halting step counts. (Radó's machines have an
-- action there too, which writes, moves and halts. It is left out here: it changes nothing but the score, and that is
-- greatest where it writes a one.)
pub record HaltsInSteps (m : TuringMachine) (k : ℕ) : Type 0 where
  pub before : ℕ
  pub last : Configuration
  pub reached : after_steps m before ≡ Some last
  pub halts : action_in m last ≡ None
  pub count : k ≡ suc before

-- so many cells of a tape hold a one: none where all are blank, and otherwise one more than are left when a cell that
-- holds a one is made blank
abbrev pub HoldsOnes : ℕ → TapeOf → Type 0
HoldsOnes zero tape = (x : ℤ) → tape x ≡ Blank
HoldsOnes (suc s) tape = (x : ℤ) × (tape x ≡ One) × HoldsOnes s (with_symbol tape x Blank)

-- it halts with the score s: so many ones are on its tape after the halting step, which writes a one
pub record HaltsWithOnes (m : TuringMachine) (s : ℕ) : Type 0 where
  pub steps : ℕ
  pub halts : HaltsInSteps m steps
  pub ones : HoldsOnes s (with_symbol halts.last.tape halts.last.head One)

-- s is the greatest number for which something is so of a machine of n states
pub record IsGreatest (n : ℕ) (Has : TuringMachine → ℕ → Type 0) (s : ℕ) : Type 0 where
  pub champion : TuringMachine
  pub is_machine : HasStates n champion
  pub has : Has champion s
  pub greatest : (m : TuringMachine) (k : ℕ) → HasStates n m → Has m k → k ≤ s

-- s is S(n): the greatest number of steps in which a machine of n states halts
abbrev pub IsS : ℕ → ℕ → Type 0
IsS n s = IsGreatest n HaltsInSteps s

-- s is Σ(n): the greatest score with which one does
abbrev pub IsSigmaOf : ℕ → ℕ → Type 0
IsSigmaOf n s = IsGreatest n HaltsWithOnes s
