-- A machine written in both ways halts alike with one score, so both have the same greatest numbers.
use Rattle.std.proofs.Common.{◌≡◌, ◌↔◌, ℕ, ◌<◌, ◌≤◌, Option, Some, None, inl, inr, sym, ◌∙◌, ap, subst, refl, arith, zero, suc, Bool, true, false, cond, not, ◌||◌, ◌&&◌, ℤ, ◌-◌, List, [], ◌∷◌, true≢false}
use Rattle.std.proofs.lemmas.Bool.{cases_lt}
use Rattle.std.proofs.lemmas.Option.{same_Some, none-some}
use Rattle.std.specs.Ordering.{int_cmp, int_eq}
use Rattle.std.specs.FinSet as set
use Rattle.std.proofs.lemmas.Cmp.{int_cmp_total}
use Rattle.std.specs.List.{list_any}
use Rattle.machine_text.specs.declared.table.Sym.{Sym}
use Rattle.machine_text.specs.declared.table.Sym.TheVariants as sym_of
use Rattle.machine_text.specs.declared.table.Dir.{Dir}
use Rattle.machine_text.specs.declared.table.Dir.TheVariants as dir_of
use Rattle.machine_text.specs.declared.table.Entry.{Entry}
use Rattle.law_turing.specs.Terms.{Machine, IsMachine, cell_of, with_cell, symbol_read, moved_head, Config, cell, start, done_by, next_from, after, HaltsAt, IsRado}
use Rattle.law_rado.specs.BusyBeaver.{Symbol, Blank, One, Direction, Left, Right, Action, TuringMachine, HasStates, TapeOf, Configuration, first_configuration, with_symbol, beside, acted_by, action_in, stepped_from, after_steps, HaltsInSteps, HoldsOnes, HaltsWithOnes, IsGreatest, IsS, IsSigmaOf}
use Rattle.law_rado.specs.SameMachine.{as_sym, as_dir, as_entry, as_entry_where, IsSameMachine}
use Rattle.law_turing.proofs.RunLaws.{from_zero, from_suc, tied_here}
use Rattle.law_tree.specs.Terms.{Scores, IsGreatestOfAll}
use Rattle.law_tree.proofs.TreeLaws.{rado_is_greatest}
use Rattle.ledger.specs.Terms.{IsSigma}

-- Each machine can be written in both ways, with the same number of states.
abbrev symbol_from : Sym → Symbol
symbol_from sym_of.Zero = Blank
symbol_from sym_of.One = One

symbol_there : (s : Symbol) → symbol_from (as_sym s) ≡ s
symbol_there Blank = refl
symbol_there One = refl

symbol_back : (s : Sym) → as_sym (symbol_from s) ≡ s
symbol_back sym_of.Zero = refl
symbol_back sym_of.One = refl

abbrev direction_from : Dir → Direction
direction_from dir_of.L = Left
direction_from dir_of.R = Right

direction_back : (d : Dir) → as_dir (direction_from d) ≡ d
direction_back dir_of.L = refl
direction_back dir_of.R = refl

abbrev action_from : Entry → Action
action_from e = record { write = symbol_from e.write; move = direction_from e.dir; next = e.next.0 }

action_back : (e : Entry) → as_entry (action_from e) ≡ e
action_back e = λ i. record { write = symbol_back e.write i; dir = direction_back e.dir i; next = e.next }

abbrev action_from_where : Option Entry → Option Action
action_from_where None = None
action_from_where (Some e) = Some (action_from e)

action_back_where : (o : Option Entry) → o ≡ as_entry_where (action_from_where o)
action_back_where None = refl
action_back_where (Some e) = ap Some (sym (action_back e))

-- a machine written the other way
pub machine_there : (t : TuringMachine) → (m : Machine) × IsSameMachine t m
machine_there t = (λ q s. as_entry_where (t q (symbol_from s)), λ q s. ap (λ r. as_entry_where (t q r)) (symbol_there s))

pub machine_back : (m : Machine) → (t : TuringMachine) × IsSameMachine t m
machine_back m = (λ q s. action_from_where (m q (as_sym s)), λ q s. action_back_where (m q (as_sym s)))

module _ (t : TuringMachine) (m : Machine) (same : IsSameMachine t m) where
  -- what the second does on a symbol of its own
  entry_is : (q : ℕ) (s : Sym) → m q s ≡ as_entry_where (t q (symbol_from s))
  entry_is q s = ap (m q) (sym (symbol_back s)) ∙ same q (symbol_from s)

  states_there : (n : ℕ) → HasStates n t → IsMachine n m
  states_there n has = record {
    some = has.some;
    beyond = λ q s past. beyond q s past (t q (symbol_from s)) refl;
    inside = λ q s e is. inside q s e is (t q (symbol_from s)) refl;
  }
    where
      beyond : (q : ℕ) (s : Sym) → n ≤ q → (o : Option Action) → t q (symbol_from s) ≡ o → m q s ≡ None
      beyond q s past None none = entry_is q s ∙ ap as_entry_where none
      beyond q s past (Some a) some = absurd (let within = (has.inside q (symbol_from s) a some).0 in omega arith)

      inside : (q : ℕ) (s : Sym) (e : Entry) → m q s ≡ Some e → (o : Option Action) → t q (symbol_from s) ≡ o → e.next.0 < n
      inside q s e is None none = absurd (none-some e (sym (entry_is q s ∙ ap as_entry_where none) ∙ is))
      inside q s e is (Some a) some =
          let e_is = same_Some (as_entry a) e (sym (entry_is q s ∙ ap as_entry_where some) ∙ is) in
          subst (λ (x : Entry). x.next.0 < n) e_is (has.inside q (symbol_from s) a some).1

  states_back : (n : ℕ) → IsMachine n m → HasStates n t
  states_back n machine = record { some = machine.some; inside = inside }
    where
      inside : (q : ℕ) (s : Symbol) (a : Action) → t q s ≡ Some a → (q < n) × (a.next < n)
      inside q s a is =
          let entry = same q s ∙ ap as_entry_where is in (
            elim (cases_lt q n) [
              | inl less ↦ less
              | inr past ↦ absurd (none-some (as_entry a) (sym (machine.beyond q (as_sym s) past) ∙ entry))
            ],
            machine.inside q (as_sym s) (as_entry a) entry,
          )

  pub same_states : (n : ℕ) → HasStates n t ↔ IsMachine n m
  same_states n = (states_there n, states_back n)

-- A machine written in both ways: its configurations stay the same, place by place, so it halts in the same step.

-- the set of places where ones stand is that of a tape
abbrev pub AreSameCells : TapeOf → set.FinSet int_cmp → Type 0
AreSameCells tape ones = (x : ℤ) → cell_of ones x ≡ as_sym (tape x)

one_or : (b c : Bool) → cond (b || c) sym_of.One sym_of.Zero ≡ cond b sym_of.One (cond c sym_of.One sym_of.Zero)
one_or true c = refl
one_or false c = refl

one_but : (b c : Bool) → cond (not b && c) sym_of.One sym_of.Zero ≡ cond b sym_of.Zero (cond c sym_of.One sym_of.Zero)
one_but true c = refl
one_but false c = refl

cell_written : (ones : set.FinSet int_cmp) (x : ℤ) (s : Sym) (q : ℤ) → cell_of (with_cell ones x s) q ≡ cond (int_eq q x) s (cell_of ones q)
cell_written ones x sym_of.One q = ap (λ b. cond b sym_of.One sym_of.Zero) (set.contains-insert int_cmp_total ones x q) ∙ one_or (int_eq q x) (set.contains ones q)
cell_written ones x sym_of.Zero q = ap (λ b. cond b sym_of.One sym_of.Zero) (set.contains-remove int_cmp_total ones x q) ∙ one_but (int_eq q x) (set.contains ones q)

as_sym_cond : (b : Bool) (s r : Symbol) → cond b (as_sym s) (as_sym r) ≡ as_sym (cond b s r)
as_sym_cond true s r = refl
as_sym_cond false s r = refl

-- so it is after a symbol is written
pub same_written : (tape : TapeOf) (ones : set.FinSet int_cmp) → AreSameCells tape ones → (x : ℤ) (s : Symbol) → AreSameCells (with_symbol tape x s) (with_cell ones x (as_sym s))
same_written tape ones same x s q =
    cell_written ones x (as_sym s) q ∙ ap (cond (int_eq q x) (as_sym s)) (same q) ∙ as_sym_cond (int_eq q x) s (tape q)

pub record IsSameConfig (c : Configuration) (d : Config) : Type 0 where
  pub state : d.state ≡ c.state
  pub head : d.tape.head ≡ c.head
  pub cells : AreSameCells c.tape d.tape.ones

-- both are there and the same, or neither is there
abbrev AreSame : Option Configuration → Option Config → Type 0
AreSame None None = Unit {0}
AreSame None (Some d) = ⊥
AreSame (Some c) None = ⊥
AreSame (Some c) (Some d) = IsSameConfig c d

head_moved : (x : ℤ) (d : Direction) → moved_head x (as_dir d) ≡ beside x d
head_moved x Left = refl
head_moved x Right = refl

at_first : IsSameConfig first_configuration start
at_first = record { state = refl; head = refl; cells = λ x. ap (λ b. cond b sym_of.One sym_of.Zero) (set.contains-empty int_cmp x) }

-- what both do in one configuration leads to one
same_done : (c : Configuration) (d : Config) → IsSameConfig c d → (o : Option Action) → AreSame (acted_by c o) (done_by d (as_entry_where o))
same_done c d same None = tt
same_done c d same (Some a) = record {
  state = refl;
  head = ap (λ x. moved_head x (as_dir a.move)) same.head ∙ head_moved c.head a.move;
  cells = subst (λ x. AreSameCells (with_symbol c.tape x a.write) (with_cell d.tape.ones d.tape.head (as_sym a.write))) same.head (same_written c.tape d.tape.ones same.cells d.tape.head a.write);
}

-- where the one is, so is the other
there_is : (c : Configuration) (p : Option Config) → AreSame (Some c) p → (d : Config) × (p ≡ Some d) × IsSameConfig c d
there_is c None is = absurd is
there_is c (Some d) is = (d, refl, is)

back_is : (o : Option Configuration) (d : Config) → AreSame o (Some d) → (c : Configuration) × (o ≡ Some c) × IsSameConfig c d
back_is None d is = absurd is
back_is (Some c) d is = (c, refl, is)

no_action : (d : Config) (o : Option Action) → done_by d (as_entry_where o) ≡ None → o ≡ None
no_action d None none = refl
no_action d (Some a) none = absurd (none-some _ (sym none))

module _ (t : TuringMachine) (m : Machine) (same : IsSameMachine t m) where
  same_entry : (c : Configuration) (d : Config) → IsSameConfig c d → m d.state (symbol_read d.tape) ≡ as_entry_where (action_in t c)
  same_entry c d is = ap (λ q. m q (symbol_read d.tape)) is.state ∙ ap (m c.state) (ap (cell d) is.head ∙ is.cells c.head) ∙ same c.state (c.tape c.head)

  same_step : (o : Option Configuration) (p : Option Config) → AreSame o p → AreSame (stepped_from t o) (next_from m p)
  same_step None None is = tt
  same_step None (Some d) is = absurd is
  same_step (Some c) None is = absurd is
  same_step (Some c) (Some d) is = subst (λ p. AreSame (acted_by c (action_in t c)) (done_by d p)) (sym (same_entry c d is)) (same_done c d is (action_in t c))

  same_after : (k : ℕ) → AreSame (after_steps t k) (after m k)
  same_after zero = subst (AreSame (Some first_configuration)) (sym (from_zero m start)) at_first
  same_after (suc k) = subst (AreSame (stepped_from t (after_steps t k))) (sym (from_suc m k start)) (same_step (after_steps t k) (after m k) (same_after k))

  -- it halts on the same configuration
  pub halts_there : (k : ℕ) (h : HaltsInSteps t k) → (g : HaltsAt m k) × IsSameConfig h.last g.at
  halts_there k h =
      let (d, is, config) = there_is h.last (after m h.before) (subst (λ o. AreSame o (after m h.before)) h.reached (same_after h.before)) in
      (record { last = h.before; at = d; is = is; over = ap (done_by d) (same_entry h.last d config ∙ ap as_entry_where h.halts); count = h.count }, config)

  pub halts_back : (k : ℕ) (g : HaltsAt m k) → (h : HaltsInSteps t k) × IsSameConfig h.last g.at
  halts_back k g =
      let (c, is, config) = back_is (after_steps t g.last) g.at (subst (AreSame (after_steps t g.last)) g.is (same_after g.last)) in
      (record { before = g.last; last = c; reached = is; halts = no_action g.at (action_in t c) (ap (done_by g.at) (sym (same_entry c g.at config)) ∙ g.over); count = g.count }, config)

  pub same_halts : (k : ℕ) → HaltsInSteps t k ↔ HaltsAt m k
  same_halts k = (λ h. (halts_there k h).0, λ g. (halts_back k g).0)

-- A tape holds as many ones as the set of their places has members, so a machine written in both ways has one score.

-- whether a place is a member, by its symbol
member_is : (b : Bool) (s : Symbol) → cond b sym_of.One sym_of.Zero ≡ as_sym s → s ≡ One → b ≡ true
member_is true s is one = refl
member_is false s is one = absurd (let clash : sym_of.Zero ≡ sym_of.One = is ∙ ap as_sym one in cc)

no_member_is : (b : Bool) (s : Symbol) → cond b sym_of.One sym_of.Zero ≡ as_sym s → s ≡ Blank → b ≡ false
no_member_is true s is blank = absurd (let clash : sym_of.One ≡ sym_of.Zero = is ∙ ap as_sym blank in cc)
no_member_is false s is blank = refl

one_is : (b : Bool) (s : Symbol) → cond b sym_of.One sym_of.Zero ≡ as_sym s → b ≡ true → s ≡ One
one_is b One is member = refl
one_is b Blank is member = absurd (let clash : sym_of.One ≡ sym_of.Zero = ap (λ c. cond c sym_of.One sym_of.Zero) (sym member) ∙ is in cc)

blank_is : (b : Bool) (s : Symbol) → cond b sym_of.One sym_of.Zero ≡ as_sym s → b ≡ false → s ≡ Blank
blank_is b Blank is outside = refl
blank_is b One is outside = absurd (let clash : sym_of.Zero ≡ sym_of.One = ap (λ c. cond c sym_of.One sym_of.Zero) (sym outside) ∙ is in cc)

-- a set with no members is empty
empty_is : (ones : set.FinSet int_cmp) → ((x : ℤ) → set.contains ones x ≡ false) → set.len ones ≡ 0
empty_is ones none =
    ap set.len (set.same_set int_cmp_total set.int_cmp-IsAntisymmetric ones set.empty (λ x. none x ∙ sym (set.contains-empty int_cmp x))) ∙ set.len-empty int_cmp

-- a set with a member has one more than without it
one_fewer : (ones : set.FinSet int_cmp) (x : ℤ) → set.contains ones x ≡ true → set.len ones ≡ suc (set.len (set.remove ones x))
one_fewer ones x member = by_size (set.len ones) refl
  where
    by_size : (k : ℕ) → set.len ones ≡ k → set.len ones ≡ suc (set.len (set.remove ones x))
    by_size zero none = absurd (true≢false (sym member ∙ ap (λ s. set.contains s x) (set.empty_of_len ones none) ∙ set.contains-empty int_cmp x))
    by_size (suc k) some =
        let removed : set.len (set.remove ones x) ≡ set.len ones - 1 = set.len-remove int_cmp_total ones x ∙ ap (λ b. cond b (set.len ones - 1) (set.len ones)) member in
        omega arith

-- a set that isn't empty has a member
some_member : (ones : set.FinSet int_cmp) (s : ℕ) → suc s ≡ set.len ones → (x : ℤ) × (set.contains ones x ≡ true)
some_member ones s size = first (set.items ones) refl
  where
    first : (xs : List ℤ) → set.items ones ≡ xs → (x : ℤ) × (set.contains ones x ≡ true)
    first [] none = absurd (let e = empty_is ones (λ x. set.contains-items ones x ∙ ap (list_any (int_eq x)) none) in omega arith)
    first (x ∷ xs) is = (x, set.contains-items ones x ∙ ap (list_any (int_eq x)) is ∙ ap (λ b. b || list_any (int_eq x) xs) (tied_here x))

ones_there : (s : ℕ) (tape : TapeOf) (ones : set.FinSet int_cmp) → AreSameCells tape ones → HoldsOnes s tape → s ≡ set.len ones
ones_there zero tape ones same blank = sym (empty_is ones (λ x. no_member_is (set.contains ones x) (tape x) (same x) (blank x)))
ones_there (suc s) tape ones same (x, one, rest) =
    ap suc (ones_there s (with_symbol tape x Blank) (set.remove ones x) (same_written tape ones same x Blank) rest)
    ∙ sym (one_fewer ones x (member_is (set.contains ones x) (tape x) (same x) one))

ones_back : (s : ℕ) (tape : TapeOf) (ones : set.FinSet int_cmp) → AreSameCells tape ones → s ≡ set.len ones → HoldsOnes s tape
ones_back zero tape ones same size = λ x.
    let none = ap (λ r. set.contains r x) (set.empty_of_len ones (sym size)) ∙ set.contains-empty int_cmp x in
    blank_is (set.contains ones x) (tape x) (same x) none
ones_back (suc s) tape ones same size =
    let (x, member) = some_member ones s size in (
      x,
      one_is (set.contains ones x) (tape x) (same x) member,
      ones_back s (with_symbol tape x Blank) (set.remove ones x) (same_written tape ones same x Blank) (let e = one_fewer ones x member in omega arith),
    )

-- the tapes after the halting step
last_cells : (c : Configuration) (d : Config) → IsSameConfig c d → AreSameCells (with_symbol c.tape c.head One) (set.insert d.tape.ones d.tape.head)
last_cells c d same =
    subst (λ x. AreSameCells (with_symbol c.tape x One) (set.insert d.tape.ones d.tape.head)) same.head (same_written c.tape d.tape.ones same.cells d.tape.head One)

module _ (t : TuringMachine) (m : Machine) (same : IsSameMachine t m) where
  score_there : (s : ℕ) → HaltsWithOnes t s → Scores m s
  score_there s h =
      let (g, config) = halts_there t m same h.steps h.halts in
      (h.steps, record { halts = g; score = ones_there s _ _ (last_cells h.halts.last g.at config) h.ones })

  score_back : (s : ℕ) → Scores m s → HaltsWithOnes t s
  score_back s v =
      let (h, config) = halts_back t m same v.0 v.1.halts in
      record { steps = v.0; halts = h; ones = ones_back s _ _ (last_cells h.last v.1.halts.at config) v.1.score }

  pub same_score : (s : ℕ) → HaltsWithOnes t s ↔ Scores m s
  same_score s = (score_there s, score_back s)

-- What is the same of a machine written in both ways has the same greatest number over all machines of n states.
module _ (Has : TuringMachine → ℕ → Type 0) (V : Machine → ℕ → Type 0) (alike : (t : TuringMachine) (m : Machine) → IsSameMachine t m → (s : ℕ) → Has t s ↔ V m s) where
  same_greatest : (n s : ℕ) → IsGreatestOfAll V n s ↔ IsGreatest n Has s
  same_greatest n s = (back, there)
    where
      back : IsGreatestOfAll V n s → IsGreatest n Has s
      back g =
          let (t, same) = machine_back g.champion in
          record {
            champion = t;
            is_machine = (same_states t g.champion same n).1 g.is_machine;
            has = (alike t g.champion same s).1 g.worth;
            greatest = λ u k states has. let (m, is) = machine_there u in g.greatest m k ((same_states u m is n).0 states) ((alike u m is k).0 has);
          }

      there : IsGreatest n Has s → IsGreatestOfAll V n s
      there g =
          let (m, same) = machine_there g.champion in
          record {
            champion = m;
            is_machine = (same_states g.champion m same n).0 g.is_machine;
            worth = (alike g.champion m same s).0 g.has;
            greatest = λ r k machine worth. let (u, is) = machine_back r in g.greatest u k ((same_states u r is n).1 machine) ((alike u r is k).1 worth);
          }

pub greatest_steps : (n s : ℕ) → IsRado n s ↔ IsS n s
greatest_steps n s =
    let rado = rado_is_greatest n s in
    let all = same_greatest HaltsInSteps HaltsAt same_halts n s in
    (λ r. all.0 (rado.1 r), λ g. rado.0 (all.1 g))

-- of the scores that is the greatest score
sigma_is_greatest : (n s : ℕ) → IsGreatestOfAll Scores n s ↔ IsSigma n s
sigma_is_greatest n s = (
  λ g. record { champion = g.champion; is_machine = g.is_machine; scores = g.worth; greatest = g.greatest },
  λ r. record { champion = r.champion; is_machine = r.is_machine; worth = r.scores; greatest = r.greatest },
)

pub greatest_score : (n s : ℕ) → IsSigma n s ↔ IsSigmaOf n s
greatest_score n s =
    let sigma = sigma_is_greatest n s in
    let all = same_greatest HaltsWithOnes Scores same_score n s in
    (λ r. all.0 (sigma.1 r), λ g. sigma.0 (all.1 g))
