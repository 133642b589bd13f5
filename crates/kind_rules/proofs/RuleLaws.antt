-- Rules with induction are a kind: their texts, their numbers, and loops over them.
use Rattle.std.proofs.Common.{◌≡◌, ℕ, ◌≤◌, true, false, ltb, List, [], ◌∷◌, length, None, Ok, refl, ap, arith, subst, ◌+◌, ◌++◌, append_assoc, length-append, ◌∙◌, zero, suc, ◌-◌, ◌<◌, ◌/◌, ◌%◌, sym, ◌&&◌, Bool, map, take, drop, get_or, Option, Some}
use Rattle.std.specs.Prelude.{is_some, nat_le, IsTrue, All, if◌then◌else◌}
use Rattle.std.proofs.lemmas.Bool.{and_parts, false≢true}
use Rattle.std.proofs.lemmas.Bool.Decides.{nat_tests}
use Rattle.std.proofs.lemmas.List.Elements.{All-nil, All-cons}
use Rattle.std.proofs.Math.Seq.{take-append_seam, drop-append_seam}
use Rattle.std.proofs.lemmas.List.{append-nil, take_more, drop_more}
use Rattle.std.proofs.lemmas.Option.{none-some}
use Rattle.std.specs.Global.{Vec}
use Rattle.text.specs.Terms.{IsField, spaced}
use Rattle.text.proofs.DecimalFields.{and_field, no_fields, length-spaced}
use Rattle.kind_evidence.specs.Terms.{IsKind, room_for_fields}
use Rattle.kind_evidence.proofs.EvidenceLaws.{is_letter}
use Rattle.kind_rules.specs.Limits.{rules_byte_limit}
use Rattle.kind_rules.specs.RuleTexts.{RuleTexts, are_high, all_high, given_by, rule_bytes, certificate_in, AreRuleTexts, rule_texts, texts_in}
use Rattle.kind_rules.specs.Kind.{rules_by, rule_texts_by, rule_fields, rules_kind}
use Rattle.machine_text.specs.declared.table.Sym.{Sym}
use Rattle.law_machines.specs.Terms.{repeat}
use Rattle.law_induction.specs.Terms.{symbols_in, digit, Form, RuleForm, ◌>>=◌, Setting, rule_at, grouped_at, used, done, form_stepped, steps_done, forms_of, all_forms, is_group_proved, are_proved}
use Rattle.law_turing.specs.Terms.{Machine}
use Rattle.kind_rules.specs.declared.texts_given.ProvedRule.{ProvedRule}
use Rattle.law_induction.specs.declared.scripts.Exponents.{Exponents}
use Rattle.law_induction.specs.declared.scripts.Move.TheVariants.{Use}
use Rattle.kind_rules.specs.Views.{rule_in, proved_in, group_in}

-- Rules with induction are a kind.
texts_back : (t : RuleTexts) → AreRuleTexts t → rules_by t ≡ Ok t
texts_back t are =
    let short = are.within.short in
    let fits : ltb rules_byte_limit (rule_bytes t) ≡ false = grind (arith, nat_tests, short) in
    let given : is_some (given_by t) ≡ true = are.given in
    rw (fits, given) refl

-- a text whose bytes are tested is a field
high_is_field : (text : List ℕ) → are_high text ≡ true → IsField text
high_is_field [] is = All-nil (λ b. 33 ≤ b)
high_is_field (b ∷ text) is =
    let (first, rest) = and_parts (nat_le 33 b) _ is in
    let high : 33 ≤ b = grind (arith, nat_tests, first) in
    All-cons (λ b. 33 ≤ b) b text high (high_is_field text rest)

all_are_high : (t : RuleTexts) → IsTrue (is_some (given_by t)) → all_high t ≡ true
unfolding given_by
all_are_high t = elim (all_high t) as (λ b. all_high t ≡ b → IsTrue (is_some (if b then certificate_in t else None)) → b ≡ true) [ true ↦ λ is given. refl | false ↦ λ is given. absurd (false≢true given) ] refl

rule_texts_are_fields : (t : RuleTexts) → AreRuleTexts t → All IsField (rule_fields t)
unfolding all_high
rule_texts_are_fields t are =
    let (rules, r1) = and_parts (are_high t.rules) _ (all_are_high t are.given) in
    let (family, r2) = and_parts (are_high t.family) _ r1 in
    let (first, r3) = and_parts (are_high t.first) _ r2 in
    let (begin, r4) = and_parts (are_high t.begin) _ r3 in
    let (next, loop) = and_parts (are_high t.next) (are_high t.loop) r4 in
    and_field t.rules (t.family ∷ (t.first ∷ (t.begin ∷ (t.next ∷ (t.loop ∷ []))))) (high_is_field t.rules rules)
    (and_field t.family (t.first ∷ (t.begin ∷ (t.next ∷ (t.loop ∷ [])))) (high_is_field t.family family)
    (and_field t.first (t.begin ∷ (t.next ∷ (t.loop ∷ []))) (high_is_field t.first first)
    (and_field t.begin (t.next ∷ (t.loop ∷ [])) (high_is_field t.begin begin)
    (and_field t.next (t.loop ∷ []) (high_is_field t.next next) (and_field t.loop [] (high_is_field t.loop loop) no_fields)))))

rule_texts_are_short : (t : RuleTexts) → AreRuleTexts t → length (spaced (rule_fields t)) ≤ room_for_fields t.states
rule_texts_are_short t are =
    let short = are.within.short in
    let few = are.within.few in
    omega (
      arith,
      short,
      few,
      length-spaced t.rules (t.family ∷ (t.first ∷ (t.begin ∷ (t.next ∷ (t.loop ∷ []))))),
      length-spaced t.family (t.first ∷ (t.begin ∷ (t.next ∷ (t.loop ∷ [])))),
      length-spaced t.first (t.begin ∷ (t.next ∷ (t.loop ∷ []))),
      length-spaced t.begin (t.next ∷ (t.loop ∷ [])),
      length-spaced t.next (t.loop ∷ []),
      length-spaced t.loop [],
    )

pub rules_are_kind : IsKind rules_kind
rules_are_kind = record {
  letter = is_letter 82 (omega arith);
  are_fields = rule_texts_are_fields;
  short = λ t n few texts made. subst (λ n. length (spaced (rule_fields t)) ≤ room_for_fields n) made (rule_texts_are_short t texts);
  back = λ t n texts made. subst (λ n. rule_texts_by n (rule_fields t) ≡ Ok t) made (texts_back t texts);
  writable = λ t p within stands. record { given = ap is_some stands.given; within = within };
  made = λ t p stands. stands.states;
}

-- Six texts one behind another, cut again.
abbrev joined : (a b c d e f : List ℕ) → List ℕ
joined a b c d e f = ((((a ++ b) ++ c) ++ d) ++ e) ++ f

abbrev chained : (a b c d e f : List ℕ) → List ℕ
chained a b c d e f = a ++ (b ++ (c ++ (d ++ (e ++ f))))

joined_is : (a b c d e f : List ℕ) → joined a b c d e f ≡ chained a b c d e f
joined_is a b c d e f =
    append_assoc (((a ++ b) ++ c) ++ d) e f ∙ append_assoc ((a ++ b) ++ c) d (e ++ f)
    ∙ append_assoc (a ++ b) c (d ++ (e ++ f)) ∙ append_assoc a b (c ++ (d ++ (e ++ f)))

chained_cut : (states : ℕ) (a b c d e f : List ℕ)
    → texts_in states (length a) (length b) (length c) (length d) (length e) (chained a b c d e f) ≡ rule_texts states a b c d e f
unfolding texts_in
chained_cut states a b c d e f =
    let a0 = take-append_seam a (b ++ (c ++ (d ++ (e ++ f)))) in
    let a1 = drop-append_seam a (b ++ (c ++ (d ++ (e ++ f)))) in
    let b0 = take-append_seam b (c ++ (d ++ (e ++ f))) in
    let b1 = drop-append_seam b (c ++ (d ++ (e ++ f))) in
    let c0 = take-append_seam c (d ++ (e ++ f)) in
    let c1 = drop-append_seam c (d ++ (e ++ f)) in
    let d0 = take-append_seam d (e ++ f) in
    let d1 = drop-append_seam d (e ++ f) in
    let e0 = take-append_seam e f in
    let e1 = drop-append_seam e f in
    rw (a0, a1, b0, b1, c0, c1, d0, d1, e0, e1) refl

pub texts_joined : (states : ℕ) (a b c d e f : List ℕ)
    → texts_in states (length a) (length b) (length c) (length d) (length e) (joined a b c d e f) ≡ rule_texts states a b c d e f
texts_joined states a b c d e f =
    ap (texts_in states (length a) (length b) (length c) (length d) (length e)) (joined_is a b c d e f) ∙ chained_cut states a b c d e f

pub room_joined : (a b c d e f : List ℕ) → length a + length b + length c + length d + length e ≤ length (joined a b c d e f)
room_joined a b c d e f = omega (
  arith,
  length-append ((((a ++ b) ++ c) ++ d) ++ e) f,
  length-append (((a ++ b) ++ c) ++ d) e,
  length-append ((a ++ b) ++ c) d,
  length-append (a ++ b) c,
  length-append a b,
)

-- The symbols of words, one after another.
is_more : (n : ℕ) → 1 < n → nat_le n 1 ≡ false
is_more n more = grind (arith, nat_tests)

is_none : (n : ℕ) → n ≤ 1 → nat_le n 1 ≡ true
is_none n none = grind (arith, nat_tests)

one_symbol : (k n : ℕ) → 1 < n → symbols_in (suc k) n ≡ digit (n % 2) ∷ symbols_in k (n / 2)
one_symbol k n more = ap (λ b. if b then [] else digit (n % 2) ∷ symbols_in k (n / 2)) (is_more n more)

no_symbol : (k n : ℕ) → n ≤ 1 → symbols_in k n ≡ []
no_symbol zero n none = refl
no_symbol (suc k) n none = ap (λ b. if b then [] else digit (n % 2) ∷ symbols_in k (n / 2)) (is_none n none)

pub spelled_more : (limit i n : ℕ) (row whole : List Sym) → i < limit → 1 < n → row ++ symbols_in (limit - i) n ≡ whole →
    (row ++ digit (n % 2) ∷ []) ++ symbols_in (limit - (i + 1)) (n / 2) ≡ whole
spelled_more limit i n row whole below more is =
    let k : limit - i ≡ suc (limit - (i + 1)) = omega arith in
    append_assoc row (digit (n % 2) ∷ []) (symbols_in (limit - (i + 1)) (n / 2)) ∙
    ap (λ x. row ++ x) (sym (one_symbol (limit - (i + 1)) n more) ∙ ap (λ j. symbols_in j n) (sym k)) ∙ is

pub spelled_out : (k n : ℕ) (row whole : List Sym) → n ≤ 1 → row ++ symbols_in k n ≡ whole → row ≡ whole
spelled_out k n row whole none is = sym (ap (λ x. row ++ x) (no_symbol k n none) ∙ append-nil row) ∙ is

pub spelled_all : (k n : ℕ) (row whole : List Sym) → k ≡ 0 → row ++ symbols_in k n ≡ whole → row ≡ whole
spelled_all k n row whole none is = sym (ap (λ j. row ++ symbols_in j n) none ∙ append-nil row) ∙ is

pub repeated_more : (w : List Sym) (k i : ℕ) (row whole : List Sym) → i < k → row ++ repeat w (k - i) [] ≡ whole →
    (row ++ w) ++ repeat w (k - (i + 1)) [] ≡ whole
repeated_more w k i row whole below is =
    let n : k - i ≡ suc (k - (i + 1)) = omega arith in
    append_assoc row w (repeat w (k - (i + 1)) []) ∙ ap (λ j. row ++ repeat w j []) (sym n) ∙ is

-- Rules by their numbers, and loops over steps and rules.

-- a rule by its number
pub rule_found : (xs : List ProvedRule) (more : List RuleForm) (k : ℕ) (x : ProvedRule) → k < length xs → x ≡ get_or xs k x →
    rule_at (forms_of (map proved_in xs) ++ more) k ≡ Some (rule_in x.rule)
rule_found [] more k x below is = absurd (omega arith)
rule_found (y ∷ xs) more zero x below is = ap (λ (p : ProvedRule). Some (rule_in p.rule)) (sym is)
rule_found (y ∷ xs) more (suc k) x below is = rule_found xs more k x (omega arith) is

pub rule_behind : (xs : List ProvedRule) (more : List RuleForm) (k : ℕ) → length xs ≤ k →
    rule_at (forms_of (map proved_in xs) ++ more) k ≡ rule_at more (k - length xs)
rule_behind [] more k past = ap (rule_at more) (let e : k ≡ k - 0 = omega arith in e)
rule_behind (y ∷ xs) more zero past = absurd (let p : suc (length xs) ≤ zero = past in omega arith)
rule_behind (y ∷ xs) more (suc k) past =
    rule_behind xs more k (omega arith) ∙ ap (rule_at more) (let e : k - length xs ≡ suc k - suc (length xs) = omega arith in e)

pub rule_missing : (rs : List RuleForm) (k : ℕ) → length rs ≤ k → rule_at rs k ≡ None
rule_missing [] k past = refl
rule_missing (r ∷ rs) zero past = absurd (let p : suc (length rs) ≤ zero = past in omega arith)
rule_missing (r ∷ rs) (suc k) past = rule_missing rs k (omega arith)

pub rule_within : (rs : List RuleForm) (k : ℕ) (r : RuleForm) → rule_at rs k ≡ Some r → k < length rs
rule_within [] k r is = absurd (none-some r is)
rule_within (x ∷ rs) zero r is = let p : zero < suc (length rs) = omega arith in p
rule_within (x ∷ rs) (suc k) r is = let q = rule_within rs k r is in let p : suc k < suc (length rs) = omega arith in p

pub forms_length : (xs : List ProvedRule) → length (forms_of (map proved_in xs)) ≡ length xs
forms_length [] = refl
forms_length (x ∷ xs) = ap suc (forms_length xs)

-- a rule of a group, by its number behind others
behind_all : (rs : List RuleForm) (k rest : ℕ) → length rs + rest ≡ k → nat_le (length rs) k ≡ true
behind_all rs k rest sum = grind (arith, nat_tests, sum)

grouped_behind : (rs group : List RuleForm) (k rest : ℕ) → length rs + rest ≡ k → grouped_at (length rs) group k ≡ rule_at group rest
unfolding grouped_at
grouped_behind rs group k rest sum =
    ap (λ b. if b then rule_at group (k - length rs) else None) (behind_all rs k rest sum) ∙
    ap (rule_at group) (let e : k - length rs ≡ rest = omega (arith, sum) in e)

pub grouped_found : (rs : List RuleForm) (xs : List ProvedRule) (k rest : ℕ) (x : ProvedRule) → length rs + rest ≡ k → rest < length xs → x ≡ get_or xs rest x →
    grouped_at (length rs) (forms_of (map proved_in xs)) k ≡ Some (rule_in x.rule)
grouped_found rs xs k rest x sum below is =
    grouped_behind rs (forms_of (map proved_in xs)) k rest sum ∙ ap (λ ys. rule_at ys rest) (sym (append-nil (forms_of (map proved_in xs)))) ∙
    rule_found xs [] rest x below is

pub grouped_past : (rs : List RuleForm) (xs : List ProvedRule) (k rest : ℕ) → length rs + rest ≡ k → length xs ≤ rest →
    grouped_at (length rs) (forms_of (map proved_in xs)) k ≡ None
grouped_past rs xs k rest sum past =
    let n = forms_length xs in
    grouped_behind rs (forms_of (map proved_in xs)) k rest sum ∙ rule_missing (forms_of (map proved_in xs)) rest (omega (arith, n, past))

before_all : (n k : ℕ) → k < n → nat_le n k ≡ false
before_all n k below = grind (arith, nat_tests, below)

pub grouped_earlier : (rs group : List RuleForm) (k : ℕ) (r : RuleForm) → rule_at rs k ≡ Some r → grouped_at (length rs) group k ≡ None
unfolding grouped_at
grouped_earlier rs group k r is = ap (λ b. if b then rule_at group (k - length rs) else None) (before_all (length rs) k (rule_within rs k r is))

pub use_missing : (s : Setting) (k : ℕ) (by : Exponents) (f : Form) (rest : ℕ) → length s.rules + rest ≡ k → done s (Use k by) f ≡ None
unfolding done
use_missing s k by f rest sum =
    ap (λ o. o >>= λ rule. used rule by s.open_left s.open_right f) (rule_missing s.rules k (omega (arith, sum)))

-- steps, one after another
pub steps_step : (m : Machine) (n i : ℕ) (f g : Form) (whole : Option Form) → i < n → form_stepped m f ≡ Some g → steps_done m (n - i) f ≡ whole →
    steps_done m (n - (i + 1)) g ≡ whole
unfolding steps_done
steps_step m n i f g whole below one is =
    let k : n - i ≡ suc (n - (i + 1)) = omega arith in
    sym (ap (λ o. o >>= steps_done m (n - (i + 1))) one) ∙ sym (ap (λ x. steps_done m x f) k) ∙ is

-- groups of rules, one after another
forms_push : (gs : List (Vec ProvedRule)) (g : Vec ProvedRule) → all_forms (map group_in (gs ++ g ∷ [])) ≡ all_forms (map group_in gs) ++ forms_of (group_in g)
forms_push [] g = append-nil (forms_of (group_in g))
forms_push (h ∷ gs) g = ap (λ rs. forms_of (group_in h) ++ rs) (forms_push gs g) ∙ sym (append_assoc (forms_of (group_in h)) (all_forms (map group_in gs)) (forms_of (group_in g)))

rest_is : (gs : List (Vec ProvedRule)) (k : ℕ) (g : Vec ProvedRule) → k < length gs → g ≡ get_or gs k g → drop k gs ≡ g ∷ drop (k + 1) gs
rest_is gs k g below is = drop_more gs k g below ∙ ap (λ (p : Vec ProvedRule). p ∷ drop (k + 1) gs) (sym is)

front_is : (gs : List (Vec ProvedRule)) (k : ℕ) (g : Vec ProvedRule) → k < length gs → g ≡ get_or gs k g → take (k + 1) gs ≡ take k gs ++ g ∷ []
front_is gs k g below is = take_more gs k g below ∙ ap (λ (p : Vec ProvedRule). take k gs ++ p ∷ []) (sym is)

-- a rule is looked for in one group after another
pub found_here : (gs : List (Vec ProvedRule)) (i : ℕ) (g : Vec ProvedRule) (rest : ℕ) (x : ProvedRule) (whole : Option RuleForm) → i < length gs → g ≡ get_or gs i g →
    rest < length g.items → x ≡ get_or g.items rest x → rule_at (all_forms (map group_in (drop i gs))) rest ≡ whole → whole ≡ Some (rule_in x.rule)
found_here gs i g rest x whole below is within at before =
    sym before ∙ ap (λ ys. rule_at (all_forms (map group_in ys)) rest) (rest_is gs i g below is) ∙
    rule_found g.items (all_forms (map group_in (drop (i + 1) gs))) rest x within at

pub passed_by : (gs : List (Vec ProvedRule)) (i : ℕ) (g : Vec ProvedRule) (rest n : ℕ) (whole : Option RuleForm) → i < length gs → g ≡ get_or gs i g →
    n ≡ length g.items → n ≤ rest → rule_at (all_forms (map group_in (drop i gs))) rest ≡ whole → rule_at (all_forms (map group_in (drop (i + 1) gs))) (rest - n) ≡ whole
passed_by gs i g rest n whole below is size past before =
    ap (λ j. rule_at (all_forms (map group_in (drop (i + 1) gs))) (rest - j)) size ∙
    sym (rule_behind g.items (all_forms (map group_in (drop (i + 1) gs))) rest (omega (arith, size, past))) ∙
    sym (ap (λ ys. rule_at (all_forms (map group_in ys)) rest) (rest_is gs i g below is)) ∙ before

pub passed_length : (gs : List (Vec ProvedRule)) (i : ℕ) (g : Vec ProvedRule) → i < length gs → g ≡ get_or gs i g →
    length (all_forms (map group_in (drop i gs))) ≡ length g.items + length (all_forms (map group_in (drop (i + 1) gs)))
passed_length gs i g below is =
    ap (λ ys. length (all_forms (map group_in ys))) (rest_is gs i g below is) ∙
    length-append (forms_of (group_in g)) (all_forms (map group_in (drop (i + 1) gs))) ∙
    ap (λ n. n + length (all_forms (map group_in (drop (i + 1) gs)))) (forms_length g.items)

one_by_one : (m : Machine) (gs : List (Vec ProvedRule)) (k : ℕ) (g : Vec ProvedRule) → k < length gs → g ≡ get_or gs k g →
    are_proved m (all_forms (map group_in (take k gs))) (map group_in (drop k gs)) ≡
    (is_group_proved m (all_forms (map group_in (take k gs))) (group_in g)
    && are_proved m (all_forms (map group_in (take (k + 1) gs))) (map group_in (drop (k + 1) gs)))
unfolding are_proved
one_by_one m gs k g below is =
    ap (λ ys. are_proved m (all_forms (map group_in (take k gs))) (map group_in ys)) (rest_is gs k g below is) ∙
    ap (λ rs. is_group_proved m (all_forms (map group_in (take k gs))) (group_in g) && are_proved m rs (map group_in (drop (k + 1) gs)))
    (sym (forms_push (take k gs) g) ∙ ap (λ ys. all_forms (map group_in ys)) (sym (front_is gs k g below is)))

pub proved_step : (m : Machine) (gs : List (Vec ProvedRule)) (k : ℕ) (g : Vec ProvedRule) (whole : Bool) → k < length gs → g ≡ get_or gs k g →
    is_group_proved m (all_forms (map group_in (take k gs))) (group_in g) ≡ true →
    are_proved m (all_forms (map group_in (take k gs))) (map group_in (drop k gs)) ≡ whole →
    are_proved m (all_forms (map group_in (take (k + 1) gs))) (map group_in (drop (k + 1) gs)) ≡ whole
proved_step m gs k g whole below is one before =
    sym (one_by_one m gs k g below is ∙ ap (λ b. b && are_proved m (all_forms (map group_in (take (k + 1) gs))) (map group_in (drop (k + 1) gs))) one) ∙ before
