-- The proved machines are known by their texts, and none of them halts.
use Rattle.std.proofs.Common.{◌≡◌, ℕ, true, List, Result, Ok, sym, ◌∙◌, ap, ◌↔◌, zero, suc, ◌+◌, ◌<◌, Bool, false, [], ◌∷◌, length, slice_index_or, Option, Some, None, subst, refl, arith}
use Rattle.std.specs.Prelude.{bytes_eq, if◌then◌else◌, IsTrue, IfSome, ◌≤◌, is_some}
use Rattle.std.proofs.lemmas.Slice.Eq.{bytes_eq-Decides}
use Rattle.std.proofs.Math.ListN.{drop}
use Rattle.std.proofs.lemmas.Option.{same_Some, none-some}
use Rattle.machine_text.specs.Terms.{Packed, IsTable, entry_of, tabulated, table_of, text_of, faults_of, fault_at, entry_named}
use Rattle.machine_text.specs.declared.grammar.TextFault.{TextFault}
use Rattle.machine_text.proofs.RoundTrip.{table_of-text_of}
use Rattle.law_turing.specs.Terms.{Never}
use Rattle.law_machines.specs.declared.machines.ProvedMachine.{ProvedMachine}
use Rattle.law_machines.specs.declared.machines.ProvedMachine.TheVariants.{Skelet10, Skelet15, Skelet17, Skelet26, Skelet33, Skelet34, Skelet35}
use Rattle.law_machines.specs.Tables.{table_text}
use Rattle.law_machines.proofs.Skelet10.{skelet10, skelet10_never}
use Rattle.law_machines.proofs.Skelet15.{skelet15, skelet15_never}
use Rattle.law_machines.proofs.Skelet17.Groups.{skelet17}
use Rattle.law_machines.proofs.Skelet17.Levels.{skelet17_never}
use Rattle.law_machines.proofs.Skelet26.{skelet26, skelet26_never}
use Rattle.law_machines.proofs.Skelet33.{skelet33, skelet33_never}
use Rattle.law_machines.proofs.Skelet34.{skelet34, skelet34_never}
use Rattle.law_machines.proofs.Skelet35.{skelet35, skelet35_never}

-- Texts with the same bytes name one table.
same_Ok : (a b : Packed) → ◌≡◌ {A = Result Packed TextFault} (Ok a) (Ok b) → a ≡ b
same_Ok a b e = cc

pub by_text : (known : List ℕ) (t : Packed) → table_of known ≡ Ok t →
    (text : List ℕ) (p : Packed) → table_of text ≡ Ok p → bytes_eq text known ≡ true → p ≡ t
by_text known t names text p reads alike =
    let is : text ≡ known = (bytes_eq-Decides text known).0 alike in
    same_Ok p t (sym reads ∙ ap table_of is ∙ names)

-- The machines by their texts, and that none of them halts.

-- each text names the table that its file speaks of
pub machines_never : (m : ProvedMachine) → (p : Packed) × (table_of (table_text m) ≡ Ok p) × Never (entry_of p)
unfolding table_text table_of faults_of fault_at entry_named tabulated
machines_never Skelet10 = (skelet10, refl, skelet10_never)
machines_never Skelet15 = (skelet15, refl, skelet15_never)
machines_never Skelet17 = (skelet17, refl, skelet17_never)
machines_never Skelet26 = (skelet26, refl, skelet26_never)
machines_never Skelet33 = (skelet33, refl, skelet33_never)
machines_never Skelet34 = (skelet34, refl, skelet34_never)
machines_never Skelet35 = (skelet35, refl, skelet35_never)

abbrev pub all_machines : List ProvedMachine
all_machines = Skelet10 ∷ Skelet15 ∷ Skelet17 ∷ Skelet26 ∷ Skelet33 ∷ Skelet34 ∷ Skelet35 ∷ []

-- the first of some machines that has a text
unfoldable pub first_named : List ProvedMachine → List ℕ → Option ProvedMachine
first_named [] text = None
first_named (m ∷ ms) text = if bytes_eq text (table_text m) then Some m else first_named ms text

-- and of all
abbrev pub machine_of : List ℕ → Option ProvedMachine
machine_of text = first_named all_machines text

-- a table that its text names, and has the text of one of them, never halts
pub never_by_text : (m : ProvedMachine) (p : Packed) → table_of (text_of p) ≡ Ok p → text_of p ≡ table_text m →
    Never (entry_of p)
never_by_text m p back is =
    let (q, names, never) = machines_never m in
    let same : p ≡ q = by_text (table_text m) q names (text_of p) p back
    ((bytes_eq-Decides (text_of p) (table_text m)).1 is) in
    subst (λ o. Never (entry_of o)) (sym same) never

-- whatever table that is
pub table_never : (m : ProvedMachine) (p : Packed) → IsTable p → text_of p ≡ table_text m → Never (entry_of p)
table_never m p table is = never_by_text m p (table_of-text_of p table) is

-- the first machine with a text has it
first_has : (ms : List ProvedMachine) (text : List ℕ) (m : ProvedMachine) → first_named ms text ≡ Some m →
    text ≡ table_text m
unfolding first_named
first_has [] text m is = absurd (none-some m is)
first_has (k ∷ ms) text m is = go (bytes_eq text (table_text k)) refl is (first_has ms text m)
  where
    go : (b : Bool) → bytes_eq text (table_text k) ≡ b → (if b then Some k else first_named ms text) ≡ Some m →
        (first_named ms text ≡ Some m → text ≡ table_text m) → text ≡ table_text m
    go true test found later = (bytes_eq-Decides text (table_text k)).0 test ∙ ap table_text (same_Some k m found)
    go false test found later = later found

-- and each machine is the first one with its text
first_is : (m : ProvedMachine) → machine_of (table_text m) ≡ Some m
unfolding first_named table_text
first_is Skelet10 = refl
first_is Skelet15 = refl
first_is Skelet17 = refl
first_is Skelet26 = refl
first_is Skelet33 = refl
first_is Skelet34 = refl
first_is Skelet35 = refl

-- what is found is exactly the machine with the text
pub machine_named : (text : List ℕ) (found : Option ProvedMachine) → machine_of text ≡ found → (m : ProvedMachine) →
    (found ≡ Some m) ↔ (text ≡ table_text m)
machine_named text found is m =
    (λ some. first_has _ text m (is ∙ some), λ same. sym is ∙ ap machine_of same ∙ first_is m)

-- the machine at a place, and those behind it
drop_at : (ms : List ProvedMachine) (k : ℕ) (m : ProvedMachine) → k < length ms →
    drop k ms ≡ slice_index_or ms k m ∷ drop (suc k) ms
drop_at [] k m within = absurd (omega arith)
drop_at (j ∷ ms) zero m within = refl
drop_at (j ∷ ms) (suc k) m within = drop_at ms k m (omega arith)

first_from : (ms : List ProvedMachine) (k : ℕ) (m : ProvedMachine) (text : List ℕ) (b : Bool) → k < length ms →
    bytes_eq text (table_text (slice_index_or ms k m)) ≡ b →
    first_named (drop k ms) text ≡ (if b then Some (slice_index_or ms k m) else first_named (drop (suc k) ms) text)
unfolding first_named
first_from ms k m text b within test =
    ap (λ l. first_named l text) (drop_at ms k m within) ∙
    ap (λ t. if t then Some (slice_index_or ms k m) else first_named (drop (suc k) ms) text) test

-- from a place on, the first machine with a text is the one there, or is behind it
pub first_here : (ms : List ProvedMachine) (k : ℕ) (m : ProvedMachine) (text : List ℕ) → k < length ms →
    bytes_eq text (table_text (slice_index_or ms k m)) ≡ true →
    first_named (drop k ms) text ≡ Some (slice_index_or ms k m)
first_here ms k m text within test = first_from ms k m text true within test

pub first_later : (ms : List ProvedMachine) (k : ℕ) (m : ProvedMachine) (text : List ℕ) → k < length ms →
    bytes_eq text (table_text (slice_index_or ms k m)) ≡ false →
    first_named (drop k ms) text ≡ first_named (drop (k + 1) ms) text
first_later ms k m text within test =
    first_from ms k m text false within test ∙ ap (λ n. first_named (drop n ms) text)
    (let e : suc k ≡ k + 1 = omega arith in e)

-- behind the last there is none
pub first_none : (ms : List ProvedMachine) (k : ℕ) (text : List ℕ) → length ms ≤ k → first_named (drop k ms) text ≡ None
unfolding first_named
first_none [] zero text past = refl
first_none [] (suc k) text past = refl
first_none (m ∷ ms) zero text past = absurd (omega arith)
first_none (m ∷ ms) (suc k) text past = first_none ms k text (omega arith)

-- the test of two texts that are known otherwise
pub tested : (a b text known : List ℕ) (result test : Bool) → result ≡ bytes_eq a b → a ≡ text → b ≡ known →
    result ≡ test → bytes_eq text known ≡ test
tested a b text known result test compares is_text is_known is = ap (bytes_eq text) (sym is_known)
    ∙ ap (λ l. bytes_eq l b) (sym is_text) ∙ sym compares ∙ is

-- what whoever looks a table up learns
pub some_named : (found : Option ProvedMachine) (p : Packed) →
    ((m : ProvedMachine) → (found ≡ Some m) ↔ (text_of p ≡ table_text m)) →
    (b : Bool) → b ≡ is_some found → IsTrue b ↔ ((m : ProvedMachine) × (text_of p ≡ table_text m))
some_named None p named b is =
    (λ test. absurd (let clash : true ≡ false = sym test ∙ is in cc), λ h. absurd (none-some h.0 ((named h.0).1 h.1)))
some_named (Some m) p named b is = (λ test. (m, (named m).0 refl), λ h. is)

pub some_never : (found : Option ProvedMachine) (p : Packed) → IfSome found (λ m. Never (entry_of p)) → (b : Bool) →
    b ≡ is_some found → IsTrue b → Never (entry_of p)
some_never None p never b is test = absurd (let clash : true ≡ false = sym test ∙ is in cc)
some_never (Some m) p never b is test = never
