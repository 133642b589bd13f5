-- Steps, turns and used rules lead from form to form, and so do scripts of them.
use Rattle.std.proofs.Common.{◌≡◌, ℕ, zero, suc, pos, ◌+ℤ◌, ◌-ℤ◌, true, false, List, [], ◌∷◌, Option, Some, None, refl, sym, ap, ◌∙◌, arith, ◌&&◌, ◌==◌, Bool, drop, length, ◌||◌}
use Rattle.std.specs.Prelude.{if◌then◌else◌, nat_le, ◌-◌}
use Rattle.std.proofs.lemmas.Option.{same_Some, none-some}
use Rattle.std.proofs.lemmas.Int.{ints}
use Rattle.std.proofs.lemmas.Bool.{and_parts, false≢true}
use Rattle.std.proofs.lemmas.Bool.Decides.{Decides-eqb}
use Rattle.machine_text.specs.declared.table.Sym.{Sym}
use Rattle.machine_text.specs.declared.table.Sym.TheVariants.{Zero, One}
use Rattle.machine_text.specs.declared.table.Dir.{Dir}
use Rattle.machine_text.specs.declared.table.Dir.TheVariants.{L, R}
use Rattle.machine_text.specs.declared.table.Entry.{Entry}
use Rattle.law_turing.specs.Terms.{Machine, Config, cell}
use Rattle.law_turing.proofs.RunLaws.{from_zero}
use Rattle.law_machines.specs.Terms.{AtLeft, AtRight, Describes, symbol_at, moved_from, stepped as zipper_stepped, steps, Comes, Goes, SameCells, repeat}
use Rattle.law_machines.proofs.RuleLaws.{run⁺, same, weakened, ◌⨾◌, ◌⨾⁺◌, ◌⁺⨾◌}
use Rattle.law_induction.specs.declared.scripts.Block.{Block}
use Rattle.law_induction.specs.Words.{Values, single, block_eq, cells, Form, faced, zipper_of, value, word_symbols, blocks_eq, IsBeyond, RuleForm, HoldsAt, step_limit, half_block_limit, RuleHolds}
use Rattle.law_induction.specs.Scripts.{Taken, taken_with, taken, moved_by, entered, stepped_to, form_stepped, steps_done, turned_to, form_turned, substituted, instance_of, used_half, half_by, same_side, used, sides, is_at_end, half_rewritten, Setting, equals, again_by, rule_at, grouped_at, done, small, done_within, all_done, is_step, has_step}
use Rattle.law_induction.proofs.BlockLaws.{bound, same_block, cells_single, tested, values_by, value_substituted, same_blocks, cells_append, replaced_parts, Agree, sides_agree, agree_back, rewritten_same, same_is}
use Rattle.law_induction.specs.declared.scripts.Exponents.{Exponents}
use Rattle.law_induction.specs.declared.scripts.Move.{Move}
use Rattle.law_induction.specs.declared.scripts.Move.TheVariants.{Steps, Turn, Use, Again, Together, Forth, Back}

-- Steps of the machine on forms, and turns of the head.

-- the same configuration
pub same_faced : (m : Machine) (h : Dir) (q : ℕ) (l k r s : List Sym) → SameCells l k → SameCells r s → Comes m (faced h l q r) (faced h k q s)
same_faced m L q l k r s left right = record {
  run = λ c d. (0, c, from_zero m c, record { edge = d.edge; head = d.head; state = d.state; left = λ n. d.left n ∙ left.cell n; right = λ n. d.right n ∙ right.cell n });
}
same_faced m R q l k r s left right = record {
  run = λ c d. (0, c, from_zero m c, record { edge = d.edge; head = d.head; state = d.state; left = λ n. d.left n ∙ left.cell n; right = λ n. d.right n ∙ right.cell n });
}

-- the symbol under the head
pub taken_cells : (xs : List Block) (t : Taken) (v : Values) (l : List Sym) → taken xs ≡ Some t → cells xs v l ≡ t.symbol ∷ cells t.rest v l
unfolding taken
taken_cells [] t v l is = absurd (none-some t is)
taken_cells (x ∷ xs) t v l is =
    elim (block_eq x (single Zero)) as (λ b. block_eq x (single Zero) ≡ b → (if b then Some (taken_with Zero xs) else if block_eq x (single One) then Some (taken_with One xs) else None) ≡ Some t → cells (x ∷ xs) v l ≡ t.symbol ∷ cells t.rest v l) [
      | true ↦ λ sure e. here Zero sure (same_Some _ _ e)
      | false ↦ λ other e. elim (block_eq x (single One)) as (λ b. block_eq x (single One) ≡ b → (if b then Some (taken_with One xs) else None) ≡ Some t → cells (x ∷ xs) v l ≡ t.symbol ∷ cells t.rest v l) [
        | true ↦ λ sure e. here One sure (same_Some _ _ e)
        | false ↦ λ other e. absurd (none-some t e)
      ] refl e
    ] refl is
  where
    here : (s : Sym) → block_eq x (single s) ≡ true → taken_with s xs ≡ t → cells (x ∷ xs) v l ≡ t.symbol ∷ cells t.rest v l
    here s sure e =
        ap (λ y. cells (y ∷ xs) v l) (same_block x (single s) sure) ∙ cells_single s v (cells xs v l) ∙ ap (λ (t : Taken). t.symbol ∷ cells t.rest v l) e

-- a step
step_left : (m : Machine) (q : ℕ) (l r : List Sym) (s : Sym) (e : Entry) → m q s ≡ Some e → Goes m (AtLeft (s ∷ l) q r) (moved_from e.dir l e.next.0 e.write r)
unfolding steps
step_left m q l r s e is = run⁺ m 0 _ _ (ap (zipper_stepped l r) is)

step_right : (m : Machine) (q : ℕ) (l r : List Sym) (s : Sym) (e : Entry) → m q s ≡ Some e → Goes m (AtRight l q (s ∷ r)) (moved_from e.dir l e.next.0 e.write r)
unfolding steps
step_right m q l r s e is = run⁺ m 0 _ _ (ap (zipper_stepped l r) is)

moved_is : (d : Dir) (e : Entry) (left right : List Block) (v : Values) (l r : List Sym) →
    moved_from d (cells left v l) e.next.0 e.write (cells right v r) ≡ zipper_of (moved_by d e left right) v l r
moved_is L e left right v l r = ap (AtLeft (cells left v l) e.next.0) (sym (cells_single e.write v (cells right v r)))
moved_is R e left right v l r = ap (λ x. AtRight x e.next.0 (cells right v r)) (sym (cells_single e.write v (cells left v l)))

entered_is : (o : Option Entry) (left right : List Block) (g : Form) → entered o left right ≡ Some g → (e : Entry) × (o ≡ Some e) × (moved_by e.dir e left right ≡ g)
entered_is None left right g is = absurd (none-some g is)
entered_is (Some e) left right g is = (e, refl, same_Some _ _ is)

pub stepped_goes : (m : Machine) (h : Dir) (q : ℕ) (left right : List Block) (g : Form) (v : Values) (l r : List Sym) → stepped_to h m q left right ≡ Some g →
    Goes m (faced h (cells left v l) q (cells right v r)) (zipper_of g v l r)
stepped_goes m L q left right g v l r is =
    let (t, took, more) = bound (taken left) _ g is in
    let (e, entry, to) = entered_is (m q t.symbol) t.rest right g more in
    same m (ap (λ x. AtLeft x q (cells right v r)) (taken_cells left t v l took)) ⨾⁺
    (step_left m q (cells t.rest v l) (cells right v r) t.symbol e entry ⁺⨾
    same m (moved_is e.dir e t.rest right v l r ∙ ap (λ (f : Form). zipper_of f v l r) to))
stepped_goes m R q left right g v l r is =
    let (t, took, more) = bound (taken right) _ g is in
    let (e, entry, to) = entered_is (m q t.symbol) left t.rest g more in
    same m (ap (AtRight (cells left v l) q) (taken_cells right t v r took)) ⨾⁺
    (step_right m q (cells left v l) (cells t.rest v r) t.symbol e entry ⁺⨾
    same m (moved_is e.dir e left t.rest v l r ∙ ap (λ (f : Form). zipper_of f v l r) to))

one_step : (m : Machine) (f g : Form) (v : Values) (l r : List Sym) → form_stepped m f ≡ Some g → Goes m (zipper_of f v l r) (zipper_of g v l r)
unfolding form_stepped
one_step m f g v l r is = stepped_goes m f.heading f.state f.left f.right g v l r is

-- so many
pub steps_come : (m : Machine) (n : ℕ) (f g : Form) (v : Values) (l r : List Sym) → steps_done m n f ≡ Some g → Comes m (zipper_of f v l r) (zipper_of g v l r)
unfolding steps_done
steps_come m zero f g v l r is = same m (ap (λ (f : Form). zipper_of f v l r) (same_Some f g is))
steps_come m (suc n) f g v l r is =
    let (h, one, rest) = bound (form_stepped m f) (steps_done m n) g is in
    weakened (one_step m f h v l r one) ⨾ steps_come m n h g v l r rest

pub steps_go : (m : Machine) (n : ℕ) (f g : Form) (v : Values) (l r : List Sym) → steps_done m (suc n) f ≡ Some g → Goes m (zipper_of f v l r) (zipper_of g v l r)
unfolding steps_done
steps_go m n f g v l r is =
    let (h, one, rest) = bound (form_stepped m f) (steps_done m n) g is in
    one_step m f h v l r one ⁺⨾ steps_come m n h g v l r rest

-- the head turned: the same configuration, whose right half begins one cell further
turn_left : (c : Config) (s : Sym) (l r : List Sym) (q : ℕ) → Describes (AtRight l q (s ∷ r)) c → Describes (AtLeft (s ∷ l) q r) c
turn_left c s l r q d = record {
  edge = d.edge +ℤ pos 1;
  head = d.head ∙ (let p : d.edge ≡ (d.edge +ℤ pos 1) -ℤ pos 1 = omega (arith, ints) in p);
  state = d.state;
  left = left;
  right = λ k. ap (cell c) (let p : (d.edge +ℤ pos 1) +ℤ pos k ≡ d.edge +ℤ pos (suc k) = omega (arith, ints) in p) ∙ d.right (suc k);
}
  where
    left : (k : ℕ) → cell c ((d.edge +ℤ pos 1) -ℤ pos (suc k)) ≡ symbol_at (s ∷ l) k
    left zero = ap (cell c) (let p : (d.edge +ℤ pos 1) -ℤ pos 1 ≡ d.edge +ℤ pos 0 = omega (arith, ints) in p) ∙ d.right 0
    left (suc k) = ap (cell c) (let p : (d.edge +ℤ pos 1) -ℤ pos (suc (suc k)) ≡ d.edge -ℤ pos (suc k) = omega (arith, ints) in p) ∙ d.left k

turn_right : (c : Config) (s : Sym) (l r : List Sym) (q : ℕ) → Describes (AtLeft (s ∷ l) q r) c → Describes (AtRight l q (s ∷ r)) c
turn_right c s l r q d = record {
  edge = d.edge -ℤ pos 1;
  head = d.head;
  state = d.state;
  left = λ k. ap (cell c) (let p : (d.edge -ℤ pos 1) -ℤ pos (suc k) ≡ d.edge -ℤ pos (suc (suc k)) = omega (arith, ints) in p) ∙ d.left (suc k);
  right = right;
}
  where
    right : (k : ℕ) → cell c ((d.edge -ℤ pos 1) +ℤ pos k) ≡ symbol_at (s ∷ r) k
    right zero = ap (cell c) (let p : (d.edge -ℤ pos 1) +ℤ pos 0 ≡ d.edge -ℤ pos 1 = omega (arith, ints) in p) ∙ d.left 0
    right (suc k) = ap (cell c) (let p : (d.edge -ℤ pos 1) +ℤ pos (suc k) ≡ d.edge +ℤ pos k = omega (arith, ints) in p) ∙ d.right k

turned_comes_to : (m : Machine) (h : Dir) (q : ℕ) (left right : List Block) (g : Form) (v : Values) (l r : List Sym) → turned_to h q left right ≡ Some g →
    Comes m (faced h (cells left v l) q (cells right v r)) (zipper_of g v l r)
turned_comes_to m L q left right g v l r is =
    let (t, took, more) = bound (taken left) _ g is in
    let turn : Comes m (AtLeft (t.symbol ∷ cells t.rest v l) q (cells right v r)) (AtRight (cells t.rest v l) q (t.symbol ∷ cells right v r)) =
    record { run = λ c d. (0, c, from_zero m c, turn_right c t.symbol (cells t.rest v l) (cells right v r) q d) } in
    same m (ap (λ x. AtLeft x q (cells right v r)) (taken_cells left t v l took)) ⨾ (turn ⨾
    same m (ap (AtRight (cells t.rest v l) q) (sym (cells_single t.symbol v (cells right v r))) ∙ ap (λ (f : Form). zipper_of f v l r) (same_Some _ _ more)))
turned_comes_to m R q left right g v l r is =
    let (t, took, more) = bound (taken right) _ g is in
    let turn : Comes m (AtRight (cells left v l) q (t.symbol ∷ cells t.rest v r)) (AtLeft (t.symbol ∷ cells left v l) q (cells t.rest v r)) =
    record { run = λ c d. (0, c, from_zero m c, turn_left c t.symbol (cells left v l) (cells t.rest v r) q d) } in
    same m (ap (AtRight (cells left v l) q) (taken_cells right t v r took)) ⨾ (turn ⨾
    same m (ap (λ x. AtLeft x q (cells t.rest v r)) (sym (cells_single t.symbol v (cells left v l))) ∙ ap (λ (f : Form). zipper_of f v l r) (same_Some _ _ more)))

pub turned_comes : (m : Machine) (f g : Form) (v : Values) (l r : List Sym) → form_turned f ≡ Some g → Comes m (zipper_of f v l r) (zipper_of g v l r)
unfolding form_turned
turned_comes m f g v l r is = turned_comes_to m f.heading f.state f.left f.right g v l r is

-- Rules used, with others in place of their variables.
pub cells_instance : (by : Exponents) (xs ys : List Block) (v : Values) (l : List Sym) → instance_of by xs ≡ Some ys → cells ys v l ≡ cells xs (values_by by v) l
unfolding instance_of
cells_instance by [] ys v l is = ap (λ x. cells x v l) (sym (same_Some _ _ is))
cells_instance by (x ∷ xs) ys v l is =
    let (t, times, more) = bound (substituted x.times by) _ ys is in
    let (rest, tail, end) = bound (instance_of by xs) _ ys more in
    ap (λ y. cells y v l) (sym (same_Some _ _ end)) ∙
    ap (λ n. repeat (word_symbols x.word) n (cells rest v l)) (value_substituted x.times by t v times) ∙
    ap (repeat (word_symbols x.word) (value x.times (values_by by v))) (cells_instance by xs rest v l tail)

-- a half tape on which a rule is used: what is beyond the rule's end
pub record Beyond (rule_open : Bool) (v : Values) (l : List Sym) (old new xs ys : List Block) : Type 0 where
  pub rest : List Sym
  pub beyond : IsBeyond rule_open rest
  pub before : cells xs v l ≡ cells old v rest
  pub after : cells ys v l ≡ cells new v rest

used_beyond : (rule_open open_end : Bool) (v : Values) (l : List Sym) (old new xs ys : List Block) → used_half rule_open open_end old new xs ≡ Some ys →
    IsBeyond open_end l → Beyond rule_open v l old new xs ys
unfolding used_half
used_beyond true open_end v l old new xs ys is beyond =
    let (before, after) = replaced_parts 0 old new xs ys is in
    record {
      rest = cells (drop (length old) (drop 0 xs)) v l;
      beyond = λ no. absurd (false≢true (sym no));
      before = ap (λ x. cells x v l) before ∙ cells_append old (drop (length old) (drop 0 xs)) v l;
      after = ap (λ x. cells x v l) after ∙ cells_append new (drop (length old) (drop 0 xs)) v l;
    }
used_beyond false true v l old new xs ys is beyond = absurd (none-some ys is)
used_beyond false false v l old new xs ys is beyond =
    let (same, r) = tested (blocks_eq xs old) (Some new) ys is in
    record {
      rest = l;
      beyond = beyond;
      before = ap (λ x. cells x v l) (same_blocks xs old same);
      after = ap (λ x. cells x v l) (sym (same_Some new ys r));
    }

half_beyond : (by : Exponents) (rule_open open_end : Bool) (v : Values) (l : List Sym) (old new xs ys : List Block) → half_by by rule_open open_end old new xs ≡ Some ys →
    IsBeyond open_end l →
    (rest : List Sym) × IsBeyond rule_open rest × (cells xs v l ≡ cells old (values_by by v) rest) × (cells ys v l ≡ cells new (values_by by v) rest)
unfolding half_by
half_beyond by rule_open open_end v l old new xs ys is beyond =
    let (x, is_x, more) = bound (instance_of by old) _ ys is in
    let (y, is_y, half) = bound (instance_of by new) _ ys more in
    let b = used_beyond rule_open open_end v l x y xs ys half beyond in
    (b.rest, b.beyond, b.before ∙ cells_instance by old x v b.rest is_x, b.after ∙ cells_instance by new y v b.rest is_y)

pub same_heading : (h k : Dir) → same_side h k ≡ true → h ≡ k
same_heading L L is = refl
same_heading L R is = absurd (false≢true is)
same_heading R L is = absurd (false≢true is)
same_heading R R is = refl

pub zipper_same : (h k : Dir) (p q : ℕ) (l a r b : List Sym) → h ≡ k → p ≡ q → l ≡ a → r ≡ b → faced h l p r ≡ faced k a q b
zipper_same h k p q l a r b eh eq el er =
    ap (λ x. faced x l p r) eh ∙ ap (λ x. faced k l x r) eq ∙ ap (λ x. faced k x q r) el ∙ ap (λ x. faced k a q x) er

pub used_comes : (m : Machine) (rule : RuleForm) (by : Exponents) (open_left open_right : Bool) (f g : Form) (v : Values) (l r : List Sym) →
    HoldsAt m rule (values_by by v) → used rule by open_left open_right f ≡ Some g → IsBeyond open_left l → IsBeyond open_right r →
    Comes m (zipper_of f v l r) (zipper_of g v l r)
unfolding used
used_comes m rule by open_left open_right f g v l r holds is on_left on_right =
    let (fits, more) = tested ((f.state == rule.from.state) && same_side f.heading rule.from.heading) _ g is in
    let (state, heading) = and_parts _ _ fits in
    let (left, is_left, also) = bound (half_by by rule.open_left open_left rule.from.left rule.to.left f.left) _ g more in
    let (right, is_right, end) = bound (half_by by rule.open_right open_right rule.from.right rule.to.right f.right) _ g also in
    let (a, beyond_a, from_a, to_a) = half_beyond by rule.open_left open_left v l rule.from.left rule.to.left f.left left is_left on_left in
    let (b, beyond_b, from_b, to_b) = half_beyond by rule.open_right open_right v r rule.from.right rule.to.right f.right right is_right on_right in
    same m (zipper_same f.heading rule.from.heading f.state rule.from.state _ _ _ _ (same_heading _ _ heading) ((Decides-eqb f.state rule.from.state).0 state) from_a from_b) ⨾
    (holds.run a b beyond_a beyond_b ⨾
    same m (zipper_same rule.to.heading rule.to.heading rule.to.state rule.to.state _ _ _ _ refl refl (sym to_a) (sym to_b) ∙ ap (λ (f : Form). zipper_of f v l r) (same_Some _ _ end)))

-- Scripts lead from one form to another.

-- what a script may use holds
pub record IsSound (s : Setting) (v : Values) : Type 0 where
  pub rules : (k : ℕ) (rule : RuleForm) → rule_at s.rules k ≡ Some rule → RuleHolds s.machine rule
  pub group : (k : ℕ) (rule : RuleForm) → rule_at s.group k ≡ Some rule → (w : Values) → w.a ≡ v.a → HoldsAt s.machine rule w
  pub again : (rule : RuleForm) → s.again ≡ Some rule → (w : Values) → w.a ≡ v.a → HoldsAt s.machine rule w

-- a rule of a group, by its number in it
grouped_is : (before : ℕ) (group : List RuleForm) (k : ℕ) (rule : RuleForm) → grouped_at before group k ≡ Some rule → rule_at group (k - before) ≡ Some rule
unfolding grouped_at
grouped_is before group k rule is = (tested (nat_le before k) (rule_at group (k - before)) rule is).1

module _ (s : Setting) (v : Values) (sound : IsSound s v) (l r : List Sym) (on_left : IsBeyond s.open_left l) (on_right : IsBeyond s.open_right r) where
  equals_comes : (side : Dir) (place : ℕ) (at_end : Bool) (old new : List Block) (f g : Form) → Agree at_end old new v →
      equals s side place at_end old new f ≡ Some g → Comes s.machine (zipper_of f v l r) (zipper_of g v l r)
  unfolding equals
  equals_comes L place at_end old new f g agree is =
      let (xs, to, end) = bound (half_rewritten at_end s.open_left place old new f.left) _ g is in
      same_faced s.machine f.heading f.state _ _ _ _ (rewritten_same at_end s.open_left v l place old new f.left xs to agree on_left) (same_is _ _ refl) ⨾
      same s.machine (ap (λ (f : Form). zipper_of f v l r) (same_Some _ _ end))
  equals_comes R place at_end old new f g agree is =
      let (xs, to, end) = bound (half_rewritten at_end s.open_right place old new f.right) _ g is in
      same_faced s.machine f.heading f.state _ _ _ _ (same_is _ _ refl) (rewritten_same at_end s.open_right v r place old new f.right xs to agree on_right) ⨾
      same s.machine (ap (λ (f : Form). zipper_of f v l r) (same_Some _ _ end))

  pub done_comes : (x : Move) (f g : Form) → done s x f ≡ Some g → Comes s.machine (zipper_of f v l r) (zipper_of g v l r)
  unfolding done
  done_comes (Steps n) f g is = steps_come s.machine n f g v l r (tested (nat_le n step_limit) (steps_done s.machine n f) g is).1
  done_comes Turn f g is = turned_comes s.machine f g v l r is
  done_comes (Use k by) f g is =
      let (rule, there, use_it) = bound (rule_at s.rules k) _ g is in
      used_comes s.machine rule by s.open_left s.open_right f g v l r ((sound.rules k rule there).at (values_by by v)) use_it on_left on_right
  done_comes (Again b c d) f g is =
      let (rule, there, use_it) = bound s.again _ g is in
      used_comes s.machine rule (again_by b c d) s.open_left s.open_right f g v l r (sound.again rule there (values_by (again_by b c d) v) (omega arith)) use_it on_left on_right
  done_comes (Together k b c d) f g is =
      let (rule, there, use_it) = bound (grouped_at (length s.rules) s.group k) _ g is in
      let holds = sound.group (k - length s.rules) rule (grouped_is (length s.rules) s.group k rule there) (values_by (again_by b c d) v) (omega arith) in
      used_comes s.machine rule (again_by b c d) s.open_left s.open_right f g v l r holds use_it on_left on_right
  done_comes (Forth side place e) f g is =
      let (x, are, to) = bound (sides e) _ g is in
      equals_comes side place (is_at_end e) x.before x.after f g (sides_agree e x v are) to
  done_comes (Back side place e) f g is =
      let (x, are, to) = bound (sides e) _ g is in
      equals_comes side place (is_at_end e) x.after x.before f g (agree_back (is_at_end e) x.before x.after v (sides_agree e x v are)) to

  done_goes : (x : Move) (f g : Form) → is_step x ≡ true → done s x f ≡ Some g → Goes s.machine (zipper_of f v l r) (zipper_of g v l r)
  unfolding done
  done_goes (Steps zero) f g sure is = absurd (false≢true sure)
  done_goes (Steps (suc n)) f g sure is = steps_go s.machine n f g v l r (tested (nat_le (suc n) step_limit) (steps_done s.machine (suc n) f) g is).1
  done_goes Turn f g sure is = absurd (false≢true sure)
  done_goes (Use k by) f g sure is = absurd (false≢true sure)
  done_goes (Again b c d) f g sure is = absurd (false≢true sure)
  done_goes (Together k b c d) f g sure is = absurd (false≢true sure)
  done_goes (Forth side place e) f g sure is = absurd (false≢true sure)
  done_goes (Back side place e) f g sure is = absurd (false≢true sure)

  -- a form that isn't too long is itself
  small_is : (f g : Form) → small f ≡ Some g → f ≡ g
  unfolding small
  small_is f g is = same_Some f g (tested (nat_le (length f.left) half_block_limit && nat_le (length f.right) half_block_limit) (Some f) g is).1

  from_within : (x : Move) (f g : Form) → done_within s x f ≡ Some g → done s x f ≡ Some g
  unfolding done_within
  from_within x f g is = let (e, here, on) = bound (small f) (done s x) g is in ap (done s x) (small_is f e here) ∙ on

  pub script_comes : (xs : List Move) (f g : Form) → all_done s xs f ≡ Some g → Comes s.machine (zipper_of f v l r) (zipper_of g v l r)
  unfolding all_done
  script_comes [] f g is = same s.machine (ap (λ (f : Form). zipper_of f v l r) (small_is f g is))
  script_comes (x ∷ xs) f g is =
      let (h, one, rest) = bound (done_within s x f) (all_done s xs) g is in
      done_comes x f h (from_within x f h one) ⨾ script_comes xs h g rest

  pub script_goes : (xs : List Move) (f g : Form) → has_step xs ≡ true → all_done s xs f ≡ Some g → Goes s.machine (zipper_of f v l r) (zipper_of g v l r)
  unfolding all_done has_step
  script_goes [] f g sure is = absurd (false≢true sure)
  script_goes (x ∷ xs) f g sure is =
      let (h, first, rest) = bound (done_within s x f) (all_done s xs) g is in
      let one = from_within x f h first in
      elim (is_step x) as (λ b. is_step x ≡ b → (b || has_step xs) ≡ true → Goes s.machine (zipper_of f v l r) (zipper_of g v l r)) [
        | true ↦ λ step e. done_goes x f h step one ⁺⨾ script_comes xs h g rest
        | false ↦ λ other e. done_comes x f h one ⨾⁺ script_goes xs h g e rest
      ] refl sure
