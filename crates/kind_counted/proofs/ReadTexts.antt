-- Terms, rows, items and transitions are read from texts one after another, and rising items differ.
use Rattle.std.proofs.Common.{List, ◌++◌, Option, ◌≡◌, ℕ, ◌+◌, ◌≤◌, length, ℤ, ◌<◌, ◌∷◌, ◌∙◌, zero, suc, true, false, [], take, drop, sym, ap, arith, if◌then◌else◌, ◌*◌, ◌/◌, Bool, Some, None, subst, refl, inl, inr, map, get_or}
use Rattle.std.specs.Prelude.{option_map, slice_index, nat_lt, nat_le, ◌==◌, ◌&&◌, ◌||◌, ◌⊎◌}
use Rattle.std.specs.List.{onto_first}
use Rattle.std.proofs.lemmas.List.{take_all, drop_all}
use Rattle.std.specs.Option.{option_and_then}
use Rattle.std.specs.Str.{bytes_eq}
use Rattle.std.proofs.lemmas.Option.{option_and_then_some, same_Some, none-some}
use Rattle.std.proofs.lemmas.Bool.{ltb-true, false≢true}
use Rattle.std.proofs.lemmas.Bool.Decides.{nat_tests}
use Rattle.kind_counted.specs.Numbers.{AreSmall, no_numbers}
use Rattle.kind_counted.specs.Texts.{terms_from, rows_from, is_letter, terms_of, ranged, ranged_number, ranged_count, letter_count, last_byte, front_of, exit_from, pair_from, exits_from, half_states, begins_blank, item_from, item_behind, items_from}
use Rattle.kind_counted.specs.declared.rows.Row.{Row}
use Rattle.kind_counted.specs.Pivots.{points, pivots, AreRising}
use Rattle.kind_counted.specs.Limits.{half_state_limit, count_limit}
use Rattle.machine_text.specs.declared.table.Sym.{Sym}
use Rattle.machine_text.specs.declared.table.Sym.TheVariants.{Zero, One}
use Rattle.text.specs.Terms.{decimal_value, parts_of}
use Rattle.law_machines.specs.declared.counted.Count.{Count}
use Rattle.kind_counted.specs.declared.certificate.Exits.{Exits}
use Rattle.law_machines.specs.declared.counted.Transition.{Transition}
use Rattle.kind_counted.specs.Automata.{exit_by, no_exits, transitions_of, IsCount, LeadsBelow, AreStates, tells_first, is_before, follows}
use Rattle.machine_text.specs.Terms.{symbol_number}
use Rattle.law_machines.specs.declared.counted.Local.{Local}
use Rattle.kind_counted.specs.declared.form.Shape.{Shape}
use Rattle.kind_counted.specs.declared.item.Item.{Item}
use Rattle.law_machines.specs.Terms.{Item as ItemOf}
use Rattle.kind_counted.specs.Items.{item_of}
use Rattle.kind_counted.specs.inside.Judging.{locals, AreDifferent}

-- Lists that are read part by part.

-- what was read stands before what is still to be read
abbrev pub before : {A : Type 0} → List A → Option (List A) → Option (List A)
before front rest = option_map (λ more. front ++ more) rest

-- Parts, counted one after another.

-- so many were counted, and no more than may be
pub record IsCounted (parts all : List (List ℕ)) (count : ℕ) : Type 0 where
  pub sum : count + length parts ≡ length all
  pub few : count ≤ 200

-- Terms that are read one after another.

-- the numbers of the terms before are put in their places
pub record ArePut (limit low : ℕ) (numbers : List ℤ) (terms all : List (List ℕ)) : Type 0 where
  pub same : terms_from limit low numbers terms ≡ terms_from limit 0 no_numbers all
  pub small : AreSmall numbers
  pub within : low ≤ limit

-- Rows that are read one after another.

-- these rows are those of the parts before, and the next one's pivot stands right of theirs
pub record AreRead (limit low : ℕ) (rows : List Row) (parts all : List (List ℕ)) : Type 0 where
  pub same : before (points rows) (rows_from limit low parts) ≡ rows_from limit 0 all
  pub rising : AreRising rows
  pub below : (j : ℕ) → j < length rows → slice_index (pivots rows) j < low

-- Texts that are cut behind their letters.

-- so many bytes of a text are no letters
pub record HasNone (text : List ℕ) (reach : ℕ) : Type 0 where
  pub each : (k : ℕ) → k < reach → is_letter (slice_index text k) ≡ false

-- a text whose first letter stands at a place
pub cut_here : (text : List ℕ) (k : ℕ) → k < length text → HasNone text k → is_letter (slice_index text k) ≡ true →
    terms_of text ≡ take (k + 1) text ∷ terms_of (drop (k + 1) text)
cut_here [] k below none letter = absurd (omega arith)
cut_here (b ∷ text) zero below none letter = ap (λ t. if t then (b ∷ []) ∷ terms_of text else onto_first b (terms_of text)) letter
cut_here (b ∷ text) (suc k) below none letter =
    let more : suc k + 1 ≡ suc (k + 1) = omega arith in
    ap (λ t. if t then (b ∷ []) ∷ terms_of text else onto_first b (terms_of text)) (none.each 0 (omega arith)) ∙
    ap (onto_first b) (cut_here text k (omega arith) (record { each = λ j less. none.each (suc j) (omega arith) }) letter) ∙
    sym (ap (λ n. take n (b ∷ text) ∷ terms_of (drop n (b ∷ text))) more)

-- a text without a letter
pub cut_nowhere : (text : List ℕ) → 0 < length text → HasNone text (length text) → terms_of text ≡ text ∷ []
cut_nowhere [] some none = absurd (omega arith)
cut_nowhere (b ∷ []) some none = ap (λ t. if t then (b ∷ []) ∷ [] else (b ∷ []) ∷ []) (none.each 0 (omega arith))
cut_nowhere (b ∷ (c ∷ text)) some none =
    ap (λ t. if t then (b ∷ []) ∷ terms_of (c ∷ text) else onto_first b (terms_of (c ∷ text))) (none.each 0 (omega arith)) ∙
    ap (onto_first b) (cut_nowhere (c ∷ text) (omega arith) (record { each = λ j less. none.each (suc j) (omega arith) }))

-- it is its first term, behind which nothing stands
pub cut_whole : (text : List ℕ) → 0 < length text → HasNone text (length text) → terms_of text ≡ take (length text) text ∷ terms_of (drop (length text) text)
cut_whole text some none =
    cut_nowhere text some none ∙ sym (ap (λ t. t ∷ terms_of (drop (length text) text)) (take_all (length text) text (omega arith)) ∙
    ap (λ t. text ∷ terms_of t) (drop_all (length text) text (omega arith)))

-- The transitions that are read from the text of an automaton.

-- what an option that was changed comes from
pub from_map : {A B : Type 0} (f : A → B) (o : Option A) (y : B) → option_map f o ≡ Some y → (x : A) × (o ≡ Some x) × (f x ≡ y)
from_map f None y is = absurd (none-some y is)
from_map f (Some x) y is = (x, refl, same_Some (f x) y is)

ranged_below : (low limit n m : ℕ) → ranged low limit n ≡ Some m → m < limit
ranged_below low limit n m = elim (nat_lt n low) as (λ b. (if b then None else if nat_lt n limit then Some n else None) ≡ Some m → m < limit) [
  | true ↦ λ is. absurd (none-some m is)
  | false ↦ elim (nat_lt n limit) as (λ b. nat_lt n limit ≡ b → (if b then Some n else None) ≡ Some m → m < limit) [
    | true ↦ λ below is. subst (λ n. n < limit) (same_Some n m is) (ltb-true n limit below)
    | false ↦ λ below is. absurd (none-some m is)
  ] refl
]

number_below : (low limit : ℕ) (text : List ℕ) (m : ℕ) → ranged_number low limit text ≡ Some m → m < limit
unfolding ranged_number
number_below low limit text m is = option_and_then_some (ranged low limit) (decimal_value text) m is (λ n read by. ranged_below low limit n m by)

count_below : (low limit b m : ℕ) → ranged_count low limit b ≡ Some m → m < limit
unfolding ranged_count
count_below low limit b m = elim (is_letter b) as (λ t. (if t then ranged low limit (letter_count b) else None) ≡ Some m → m < limit) [
  | true ↦ λ is. ranged_below low limit (letter_count b) m is
  | false ↦ λ is. absurd (none-some m is)
]

-- a transition that is read leads to a state, and its count is one
module _ (states low limit : ℕ) (few : limit ≤ count_limit) where
  none_below : LeadsBelow None states
  none_below = record { each = λ t is. absurd (none-some t is); count = λ t is. absurd (none-some t is) }

  counted_below : (to x : ℕ) → to < states → x < limit → LeadsBelow (Some (record { to = to; count = Some (record { number = x }) })) states
  counted_below to x below small = record {
    each = λ t is. subst (λ (t : Transition). t.to < states) (same_Some (record { to = to; count = Some (record { number = x }) }) t is) below;
    count = λ t is. subst (λ (t : Transition). IsCount t.count) (same_Some (record { to = to; count = Some (record { number = x }) }) t is) (record {
      each = λ y own. subst (λ (y : Count). y.number < count_limit) (same_Some (record { number = x }) y own) (omega (arith, few));
    });
  }

  plain_below : (to : ℕ) → to < states → LeadsBelow (Some (record { to = to; count = None })) states
  plain_below to below = record {
    each = λ t is. subst (λ (t : Transition). t.to < states) (same_Some (record { to = to; count = None }) t is) below;
    count = λ t is. subst (λ (t : Transition). IsCount t.count) (same_Some (record { to = to; count = None }) t is) (record { each = λ y own. absurd (none-some y own) });
  }

  exit_below : (text : List ℕ) (o : Option Transition) → exit_from states low limit text ≡ Some o → LeadsBelow o states
  unfolding exit_from
  exit_below text o =
      elim (bytes_eq text (45 ∷ [])) as (λ b. (if b then Some None
      else if is_letter (last_byte text) then
      option_and_then (λ to. option_map (λ x. Some (record { to = to; count = Some (record { number = x }) })) (ranged_count low limit (last_byte text)))
      (ranged_number 0 states (front_of text))
      else option_map (λ to. Some (record { to = to; count = None })) (ranged_number 0 states text)) ≡ Some o → LeadsBelow o states) [
        | true ↦ λ is. subst (λ o. LeadsBelow o states) (same_Some None o is) none_below
        | false ↦ elim (is_letter (last_byte text)) as (λ b. (if b then
            option_and_then (λ to. option_map (λ x. Some (record { to = to; count = Some (record { number = x }) })) (ranged_count low limit (last_byte text)))
            (ranged_number 0 states (front_of text))
            else option_map (λ to. Some (record { to = to; count = None })) (ranged_number 0 states text)) ≡ Some o → LeadsBelow o states) [
              | true ↦ λ is. option_and_then_some (λ to. option_map (λ x. Some (record { to = to; count = Some (record { number = x }) })) (ranged_count low limit (last_byte text)))
                  (ranged_number 0 states (front_of text)) o is (λ to read by.
                  let (x, count, same) = from_map (λ x. Some (record { to = to; count = Some (record { number = x }) })) (ranged_count low limit (last_byte text)) o by in
                  subst (λ o. LeadsBelow o states) same (counted_below to x (number_below 0 states (front_of text) to read) (count_below low limit (last_byte text) x count)))
              | false ↦ λ is.
                  let (to, read, same) = from_map (λ to. Some (record { to = to; count = None })) (ranged_number 0 states text) o is in
                  subst (λ o. LeadsBelow o states) same (plain_below to (number_below 0 states text to read))
            ]
      ]

  record AreBelow (exits : List Exits) (parts : List (List ℕ)) : Type 0 where
    size : 2 * length exits ≡ length parts
    each : (q : ℕ) (s : Sym) → LeadsBelow (transitions_of exits q s) states

  pair_below : (first second : List ℕ) (pair : Exits) → pair_from states low limit first second ≡ Some pair → (s : Sym) → LeadsBelow (exit_by s pair) states
  unfolding pair_from
  pair_below first second pair is s =
      option_and_then_some (λ by_zero. option_map (λ by_one. record { zero = by_zero; one = by_one }) (exit_from states low limit second)) (exit_from states low limit first) pair is (λ by_zero read by.
      let (by_one, other, same) = from_map (λ by_one. record { zero = by_zero; one = by_one }) (exit_from states low limit second) pair by in
      subst (λ (e : Exits). LeadsBelow (exit_by s e) states) same (here by_zero by_one (exit_below first by_zero read) (exit_below second by_one other) s))
    where
      here : (by_zero by_one : Option Transition) → LeadsBelow by_zero states → LeadsBelow by_one states → (s : Sym) → LeadsBelow (exit_by s (record { zero = by_zero; one = by_one })) states
      here by_zero by_one one two Zero = one
      here by_zero by_one one two One = two

  nothing_below : (s : Sym) → LeadsBelow (exit_by s no_exits) states
  nothing_below Zero = none_below
  nothing_below One = none_below

  exits_below : (parts : List (List ℕ)) (exits : List Exits) → exits_from states low limit parts ≡ Some exits → AreBelow exits parts
  exits_below [] exits is = subst (λ (l : List Exits). AreBelow l []) (same_Some [] exits is) (record { size = refl; each = λ q s. nothing_below s })
  exits_below (first ∷ []) exits is = absurd (none-some exits is)
  exits_below (first ∷ (second ∷ parts)) exits is =
      option_and_then_some (λ pair. option_map (λ rest. pair ∷ rest) (exits_from states low limit parts)) (pair_from states low limit first second) exits is (λ pair read by.
      let (rest, others, same) = from_map (λ (rest : List Exits). pair ∷ rest) (exits_from states low limit parts) exits by in
      let are = exits_below parts rest others in
      subst (λ (l : List Exits). AreBelow l (first ∷ (second ∷ parts))) same (record {
        size = let size = are.size in omega arith;
        each = more pair rest (pair_below first second pair read) are.each;
      }))
    where
      more : (pair : Exits) (rest : List Exits) → ((s : Sym) → LeadsBelow (exit_by s pair) states) → ((q : ℕ) (s : Sym) → LeadsBelow (transitions_of rest q s) states) →
          (q : ℕ) (s : Sym) → LeadsBelow (transitions_of (pair ∷ rest) q s) states
      more pair rest one others zero s = one s
      more pair rest one others (suc q) s = others q s

  -- of an automaton of as many states as its text has, these are the states
  pub read_states : (parts : List (List ℕ)) (exits : List Exits) → half_states parts ≡ Some states → begins_blank parts ≡ true → exits_from states low limit parts ≡ Some exits → AreStates exits
  unfolding half_states
  read_states [] exits half blank is = absurd (false≢true blank)
  read_states (part ∷ parts) exits half blank is =
      let are = exits_below (part ∷ parts) exits is in
      let size : 2 * length exits ≡ length (part ∷ parts) = are.size in
      let same : length (part ∷ parts) / 2 ≡ states = halved (part ∷ parts) half in
      let long : length exits ≡ states = omega arith in
      record { some = omega arith; each = λ q s. subst (λ n. LeadsBelow (transitions_of exits q s) n) (sym long) (are.each q s) }
    where
      halved : (parts : List (List ℕ)) → (if nat_le (length parts) (2 * half_state_limit) then Some (length parts / 2) else None) ≡ Some states → length parts / 2 ≡ states
      halved parts = elim (nat_le (length parts) (2 * half_state_limit)) as (λ b. (if b then Some (length parts / 2) else None) ≡ Some states → length parts / 2 ≡ states) [
        | true ↦ λ is. same_Some (length parts / 2) states is
        | false ↦ λ is. absurd (none-some states is)
      ]

  -- and there are no more than may be
  pub read_few : (parts : List (List ℕ)) (exits : List Exits) → half_states parts ≡ Some states → exits_from states low limit parts ≡ Some exits → length exits ≤ half_state_limit
  unfolding half_states
  read_few parts exits half is =
      let are = exits_below parts exits is in
      let size : 2 * length exits ≡ length parts = are.size in
      let few : length parts ≤ 200 = below half in
      omega arith
    where
      below : (if nat_le (length parts) (2 * half_state_limit) then Some (length parts / 2) else None) ≡ Some states → length parts ≤ 200
      below = go (nat_le (length parts) (2 * half_state_limit)) refl
        where
          go : (b : Bool) → nat_le (length parts) (2 * half_state_limit) ≡ b → (if b then Some (length parts / 2) else None) ≡ Some states → length parts ≤ 200
          go true test is = grind (arith, nat_tests, test)
          go false test is = absurd (none-some states is)

-- Items that rise are of what is different.
first_cases : (a b : ℕ) (t : Bool) → tells_first a b t ≡ true → (a < b) ⊎ ((a ≡ b) × (t ≡ true))
first_cases a b true is = elim (nat_lt a b) as (λ l. nat_lt a b ≡ l → (l || ((a == b) && true)) ≡ true → (a < b) ⊎ ((a ≡ b) × (true ≡ true))) [
  | true ↦ λ less e. inl (grind (arith, nat_tests, less))
  | false ↦ λ less e. inr (grind (arith, nat_tests, e), refl)
] refl is
first_cases a b false is = elim (nat_lt a b) as (λ l. nat_lt a b ≡ l → (l || ((a == b) && false)) ≡ true → (a < b) ⊎ ((a ≡ b) × (false ≡ true))) [
  | true ↦ λ less e. inl (grind (arith, nat_tests, less))
  | false ↦ λ less e. absurd (elim (a == b) as (λ s. (s && false) ≡ true → ⊥) [ true ↦ false≢true | false ↦ false≢true ] e)
] refl is

first_less : (a b : ℕ) (t : Bool) → a < b → tells_first a b t ≡ true
first_less a b t less = let is : nat_lt a b ≡ true = grind (arith, nat_tests, less) in ap (λ l. l || ((a == b) && t)) is

first_same : (a b : ℕ) (t : Bool) → a ≡ b → t ≡ true → tells_first a b t ≡ true
first_same a b t same is =
    let eq : (a == b) ≡ true = grind (arith, nat_tests, same) in
    ap (λ t. nat_lt a b || ((a == b) && t)) is ∙ ap (λ e. nat_lt a b || (e && true)) eq ∙ elim (nat_lt a b) as (λ l. (l || true) ≡ true) [ true ↦ refl | false ↦ refl ]

-- what tells of two pairs tells of their ends
first_join : (a b c : ℕ) (t u v : Bool) → (t ≡ true → u ≡ true → v ≡ true) → tells_first a b t ≡ true → tells_first b c u ≡ true → tells_first a c v ≡ true
first_join a b c t u v both one two = go (first_cases a b t one) (first_cases b c u two)
  where
    go : (a < b) ⊎ ((a ≡ b) × (t ≡ true)) → (b < c) ⊎ ((b ≡ c) × (u ≡ true)) → tells_first a c v ≡ true
    go (inl less) (inl more) = first_less a c v (omega arith)
    go (inl less) (inr (same, is)) = first_less a c v (omega arith)
    go (inr (same, is)) (inl more) = first_less a c v (omega arith)
    go (inr (same, is)) (inr (equal, too)) = first_same a c v (omega arith) (both is too)

first_never : (a : ℕ) (t : Bool) → (t ≡ true → ⊥) → tells_first a a t ≡ true → ⊥
first_never a t never is = go (first_cases a a t is)
  where
    go : (a < a) ⊎ ((a ≡ a) × (t ≡ true)) → ⊥
    go (inl less) = absurd (omega arith)
    go (inr (same, is)) = never is

before_join : (a b c : Local) → is_before a b ≡ true → is_before b c ≡ true → is_before a c ≡ true
unfolding is_before
before_join a b c =
    first_join a.left b.left c.left _ _ _ (first_join a.state.0 b.state.0 c.state.0 _ _ _ (first_join (symbol_number a.read) (symbol_number b.read) (symbol_number c.read)
    (nat_lt a.right b.right) (nat_lt b.right c.right) (nat_lt a.right c.right) (λ one two. grind (arith, nat_tests, one, two))))

before_never : (a : Local) → is_before a a ≡ true → ⊥
unfolding is_before
before_never a =
    first_never a.left _ (first_never a.state.0 _ (first_never (symbol_number a.read) (nat_lt a.right a.right) (λ is. grind (arith, nat_tests, is))))

-- items that stand behind what stands around a head, and items each of which stands behind those before
abbrev Behind : Local → List ItemOf → Type 0
Behind c [] = Unit {0}
Behind c (item ∷ items) = (is_before c item.at ≡ true) × Behind c items

abbrev Rise : List ItemOf → Type 0
Rise [] = Unit {0}
Rise (item ∷ items) = Behind item.at items × Rise items

behind_more : (c d : Local) (items : List ItemOf) → is_before c d ≡ true → Behind d items → Behind c items
behind_more c d [] before behind = tt
behind_more c d (item ∷ items) before behind = (before_join c d item.at before behind.0, behind_more c d items before behind.1)

follows_last : (last : Option Local) (c d : Local) → last ≡ Some c → follows last d ≡ true → is_before c d ≡ true
follows_last None c d same is = absurd (none-some c same)
follows_last (Some b) c d same is = subst (λ b. is_before b d ≡ true) (same_Some b c same) is

item_follows : (a : Shape) (last : Option Local) (text : List ℕ) (item : ItemOf) → item_behind a last text ≡ Some item → follows last item.at ≡ true
unfolding item_behind
item_follows a last text item is = option_and_then_some (λ (item : ItemOf). if follows last item.at then Some item else None) (item_from a (parts_of 58 text)) item is (λ other read by.
    elim (follows last other.at) as (λ b. follows last other.at ≡ b → (if b then Some other else None) ≡ Some item → follows last item.at ≡ true) [
      | true ↦ λ yes e. subst (λ (i : ItemOf). follows last i.at ≡ true) (same_Some other item e) yes
      | false ↦ λ not e. absurd (none-some item e)
    ] refl by)

items_rise : (a : Shape) (last : Option Local) (parts : List (List ℕ)) (items : List ItemOf) → items_from a last parts ≡ Some items →
    Rise items × ((c : Local) → last ≡ Some c → Behind c items)
items_rise a last [] items is = subst (λ (l : List ItemOf). Rise l × ((c : Local) → last ≡ Some c → Behind c l)) (same_Some [] items is) (tt, λ c same. tt)
items_rise a last (part ∷ parts) items is =
    option_and_then_some (λ (item : ItemOf). option_map (λ items. item ∷ items) (items_from a (Some item.at) parts)) (item_behind a last part) items is (λ item read by.
    let (rest, others, same) = from_map (λ (items : List ItemOf). item ∷ items) (items_from a (Some item.at) parts) items by in
    let (rise, behind) = items_rise a (Some item.at) parts rest others in
    let first = behind item.at refl in
    subst (λ (l : List ItemOf). Rise l × ((c : Local) → last ≡ Some c → Behind c l)) same (
      (first, rise),
      λ c same.
          let before = follows_last last c item.at same (item_follows a last part item read) in
          (before, behind_more c item.at rest before first),
    ))

-- what stands around the head in two items that rise
behind_at : (items : List Item) (c : Local) → Behind c (map item_of items) → (i : ℕ) (d : Local) → i < length items → get_or (locals items) i d ≡ d → is_before c d ≡ true
behind_at [] c behind i d below is = absurd (omega arith)
behind_at (item ∷ items) c behind zero d below is = subst (λ d. is_before c d ≡ true) is behind.0
behind_at (item ∷ items) c behind (suc i) d below is = behind_at items c behind.1 i d (omega arith) is

rise_at : (items : List Item) → Rise (map item_of items) → (j i : ℕ) (c d : Local) → j < i → i < length items → get_or (locals items) j c ≡ c → get_or (locals items) i d ≡ d → is_before c d ≡ true
rise_at [] rise j i c d less below one two = absurd (omega arith)
rise_at (item ∷ items) rise j zero c d less below one two = absurd (omega arith)
rise_at (item ∷ items) rise zero (suc i) c d less below one two = subst (λ c. is_before c d ≡ true) one (behind_at items item.at rise.0 i d (omega arith) two)
rise_at (item ∷ items) rise (suc j) (suc i) c d less below one two = rise_at items rise.1 j i c d (omega arith) (omega arith) one two

pub read_different : (a : Shape) (parts : List (List ℕ)) (items : List Item) → items_from a None parts ≡ Some (map item_of items) → AreDifferent items
read_different a parts items is = record {
  each = λ i below. record {
    each = λ j c less one two.
        before_never c (rise_at items (items_rise a None parts (map item_of items) is).0 j i c c less below one.is two.is);
  };
}
