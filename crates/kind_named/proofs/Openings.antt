-- Ropes and other tokens at the end of the left half tape, and how a rope is opened.
use Rattle.std.proofs.Common.{◌≡◌, ℕ, ◌+◌, ◌-◌, ◌<◌, ◌≤◌, List, [], ◌∷◌, ◌++◌, length, Option, Some, None, option_to_list, sym, ◌∙◌, ap, subst, refl, arith, append_assoc, zero, suc, Bool, true, false, get_or, take, drop, length-drop}
use Rattle.std.proofs.lemmas.List.{append-nil, drop_all, take_all}
use Rattle.std.proofs.lemmas.Bool.{false≢true}
use Rattle.std.proofs.Math.Seq.{drop-cons}
use Rattle.machine_text.specs.declared.table.Sym.{Sym}
use Rattle.kind_named.specs.inside.Tokens.{xs_left, c_left, separator_left, c_right, rope_left, rope_right, wound_left, groups_at, RopesAdded, OpensTo, token_left, token_right, tokens_left, tokens_right, RopeBelow, RopesBelow, PutsLeft, PutsRight, SameLeft, Pays, EndsWith}
use Rattle.kind_named.specs.declared.ropes.Opened.{Opened}
use Rattle.kind_named.specs.declared.tokens.Token.{Token}
use Rattle.kind_named.specs.declared.tokens.Token.TheVariants.{X, Y, Cut, Separator, Rope, Wound}
use Rattle.kind_named.proofs.Sweeps.{rope_left_append, rope_left_one, wound_append, wound_one, rope_right_append, rope_right_one, one_c, xs_left_add}
use Rattle.kind_named.proofs.TokenLaws.{left_push, right_push, left_kept, right_kept, within_push, within_first, within_last, within_more, left_append}
use Rattle.kind_named.specs.inside.Loop.{glider_tokens}

-- A rope at the end of the left half tape, opened.

-- a token that was pushed
pub pushed : (b : ℕ) (ropes : List (List ℕ)) (t : Token) (ts us : List Token) (l : List Sym) → us ≡ ts ++ t ∷ [] → tokens_left b ropes us l ≡ token_left b ropes t (tokens_left b ropes ts l)
pushed b ropes t ts us l is = ap (λ x. tokens_left b ropes x l) is ∙ left_push b ropes ts t l

pub within_pushed : (n : ℕ) (t : Token) (ts us : List Token) → us ≡ ts ++ t ∷ [] → RopesBelow n ts → RopeBelow n t → RopesBelow n us
within_pushed n t ts us is w b = subst (RopesBelow n) (sym is) (within_push n ts t w b)

-- a token that was taken off
pub within_rest : (n : ℕ) (t : Token) (ts us : List Token) → ts ≡ us ++ t ∷ [] → RopesBelow n ts → RopesBelow n us
within_rest n t ts us is w = within_first n us (t ∷ []) (subst (RopesBelow n) is w)

pub below_taken : (n : ℕ) (t : Token) (ts us : List Token) → ts ≡ us ++ t ∷ [] → RopesBelow n ts → RopeBelow n t
below_taken n t ts us is w = within_last n us t (subst (RopesBelow n) is w)

-- tokens that were pushed together, one after another
pub first_pushed : (ts us rest : List Token) (t : Token) → us ≡ ts ++ t ∷ rest → us ≡ (ts ++ t ∷ []) ++ rest
first_pushed ts us rest t is = is ∙ sym (append_assoc ts (t ∷ []) rest)

module _ (old new : List (List ℕ)) (e : RopesAdded old new) (i : ℕ) (ts : List Token) (w : RopesBelow (length old) ts) where
  kept : (n : ℕ) (l : List Sym) → tokens_left n new ts l ≡ tokens_left n old ts l
  kept n l = left_kept n old new ts l e w

  later : RopesBelow (length new) ts
  later = let g = e.grows in within_more (length old) (length new) ts (omega arith) w

  module _ (a b : ℕ) (parts : (a < length new) × (b < length new) × (groups_at old i ≡ groups_at new a ++ groups_at new b)) (us : List Token) where
    pub rope_two : us ≡ ts ++ Rope a ∷ Rope b ∷ [] → PutsLeft old new (Rope i) ts us
    rope_two all =
        let one : List Token = ts ++ Rope a ∷ [] in
        let p : one ≡ ts ++ Rope a ∷ [] = refl in
        let q = first_pushed ts us (Rope b ∷ []) (Rope a) all in
        record {
          within = within_pushed (length new) (Rope b) one us q (within_pushed (length new) (Rope a) ts one p later parts.0) parts.1;
          text = λ n l.
              pushed n new (Rope b) one us l q ∙ ap (rope_left (groups_at new b)) (pushed n new (Rope a) ts one l p) ∙ sym (rope_left_append (groups_at new a) (groups_at new b) (tokens_left n new ts l)) ∙
              ap (λ gs. rope_left gs (tokens_left n new ts l)) (sym parts.2) ∙ ap (rope_left (groups_at old i)) (kept n l);
        }

    pub wound_two : us ≡ ts ++ Wound a ∷ Wound b ∷ [] → PutsLeft old new (Wound i) ts us
    wound_two all =
        let one : List Token = ts ++ Wound a ∷ [] in
        let p : one ≡ ts ++ Wound a ∷ [] = refl in
        let q = first_pushed ts us (Wound b ∷ []) (Wound a) all in
        record {
          within = within_pushed (length new) (Wound b) one us q (within_pushed (length new) (Wound a) ts one p later parts.0) parts.1;
          text = λ n l.
              pushed n new (Wound b) one us l q ∙ ap (wound_left (groups_at new b)) (pushed n new (Wound a) ts one l p) ∙ sym (wound_append (groups_at new a) (groups_at new b) (tokens_left n new ts l)) ∙
              ap (λ gs. wound_left gs (tokens_left n new ts l)) (sym parts.2) ∙ ap (wound_left (groups_at old i)) (kept n l);
        }

  module _ (g : ℕ) (is : groups_at old i ≡ g ∷ []) where
    pub rope_group : (us : List Token) → us ≡ ts ++ Cut ∷ X g ∷ [] → PutsLeft old new (Rope i) ts us
    rope_group us all =
        let one : List Token = ts ++ Cut ∷ [] in
        let p : one ≡ ts ++ Cut ∷ [] = refl in
        let q = first_pushed ts us (X g ∷ []) Cut all in
        record {
          within = within_pushed (length new) (X g) one us q (within_pushed (length new) Cut ts one p later tt) tt;
          text = λ n l.
              pushed n new (X g) one us l q ∙ ap (xs_left g) (pushed n new Cut ts one l p) ∙ sym (rope_left_one g (tokens_left n new ts l)) ∙
              ap (λ gs. rope_left gs (tokens_left n new ts l)) (sym is) ∙ ap (rope_left (groups_at old i)) (kept n l);
        }

    pub wound_group : (k : ℕ) (us : List Token) → k ≡ g - 2 → us ≡ ts ++ Separator 1 ∷ X 1 ∷ Cut ∷ X k ∷ [] → PutsLeft old new (Wound i) ts us
    wound_group k us less all =
        let one : List Token = ts ++ Separator 1 ∷ [] in
        let two : List Token = one ++ X 1 ∷ [] in
        let three : List Token = two ++ Cut ∷ [] in
        let p : one ≡ ts ++ Separator 1 ∷ [] = refl in
        let q : two ≡ one ++ X 1 ∷ [] = refl in
        let r : three ≡ two ++ Cut ∷ [] = refl in
        let s = first_pushed two us (X k ∷ []) Cut (first_pushed one us (Cut ∷ X k ∷ []) (X 1) (first_pushed ts us (X 1 ∷ Cut ∷ X k ∷ []) (Separator 1) all)) in
        record {
          within = within_pushed (length new) (X k) three us s (within_pushed (length new) Cut two three r (within_pushed (length new) (X 1) one two q (within_pushed (length new) (Separator 1) ts one p later tt) tt) tt) tt;
          text = λ n l.
              pushed n new (X k) three us l s ∙
              ap (xs_left k) (pushed n new Cut two three l r ∙ ap (λ x. c_left x) (pushed n new (X 1) one two l q ∙ ap (xs_left 1) (pushed n new (Separator 1) ts one l p))) ∙
              ap (λ j. xs_left j (c_left (xs_left 1 (separator_left 1 (tokens_left n new ts l))))) less ∙ sym (wound_one g (tokens_left n new ts l)) ∙
              ap (λ gs. wound_left gs (tokens_left n new ts l)) (sym is) ∙ ap (wound_left (groups_at old i)) (kept n l);
        }

-- a token was taken off, and put in another form
pub same_put : (old new : List (List ℕ)) (t top : Token) (ts mid us : List Token) → ts ≡ mid ++ top ∷ [] → top ≡ t → PutsLeft old new t mid us → SameLeft old new ts us
same_put old new t top ts mid us was is puts = record {
  within = puts.within;
  text = λ n l. puts.text n l ∙ ap (λ x. token_left n old x (tokens_left n old mid l)) (sym is) ∙ sym (pushed n old top mid ts l was);
}

pub same_back : (ropes : List (List ℕ)) (top : Token) (ts mid us : List Token) → RopesBelow (length ropes) ts → ts ≡ mid ++ top ∷ [] → us ≡ mid ++ top ∷ [] → SameLeft ropes ropes ts us
same_back ropes top ts mid us w was is = record { within = subst (RopesBelow (length ropes)) (was ∙ sym is) w; text = λ n l. ap (λ x. tokens_left n ropes x l) (is ∙ sym was) }

pub same_itself : (ropes : List (List ℕ)) (ts : List Token) → RopesBelow (length ropes) ts → SameLeft ropes ropes ts ts
same_itself ropes ts w = record { within = w; text = λ n l. refl }

-- opened first, and put then
pub opens_at : (ropes : List (List ℕ)) (gs : List ℕ) (o p : Opened) → o ≡ p → OpensTo ropes gs o → OpensTo ropes gs p
opens_at ropes gs o p is h = subst (OpensTo ropes gs) is h

-- the rope that was taken off is one of those that are there
pub rope_taken : (n i : ℕ) (top : Token) (ts us : List Token) → ts ≡ us ++ top ∷ [] → top ≡ Rope i → RopesBelow n ts → i < n
rope_taken n i top ts us was is w = below_taken n (Rope i) ts us (was ∙ ap (λ x. us ++ x ∷ []) is) w

pub wound_taken : (n i : ℕ) (top : Token) (ts us : List Token) → ts ≡ us ++ top ∷ [] → top ≡ Wound i → RopesBelow n ts → i < n
wound_taken n i top ts us was is w = below_taken n (Wound i) ts us (was ∙ ap (λ x. us ++ x ∷ []) is) w

-- what was taken off, by what it is
pub taken : (ts us : List Token) (o : Option Token) (t : Token) → ts ≡ us ++ option_to_list o → o ≡ Some t → ts ≡ us ++ t ∷ []
taken ts us o t was is = was ∙ ap (λ x. us ++ option_to_list x) is

pub nothing : (ts us : List Token) (o : Option Token) → ts ≡ us ++ option_to_list o → o ≡ None → ts ≡ us ++ []
nothing ts us o was is = was ∙ ap (λ x. us ++ option_to_list x) is

-- payments
pub pays_all : (ropes : List (List ℕ)) (c n : ℕ) (ts us : List Token) → RopesBelow (length ropes) ts → ts ≡ us ++ X n ∷ [] → c ≡ n → Pays ropes c ts us
pays_all ropes c n ts us w was is = record {
  within = within_rest (length ropes) (X n) ts us was w;
  text = λ b l. pushed b ropes (X n) us ts l was ∙ ap (λ i. xs_left i (tokens_left b ropes us l)) (sym is);
}

pub pays_x : (ropes : List (List ℕ)) (c n : ℕ) (ts mid us : List Token) → RopesBelow (length ropes) ts → ts ≡ mid ++ X n ∷ [] → us ≡ mid ++ X (n - c) ∷ [] → c ≤ n → Pays ropes c ts us
pays_x ropes c n ts mid us w was is less = record {
  within = within_pushed (length ropes) (X (n - c)) mid us is (within_rest (length ropes) (X n) ts mid was w) tt;
  text = λ b l.
      pushed b ropes (X n) mid ts l was ∙ ap (λ i. xs_left i (tokens_left b ropes mid l)) (let p : n ≡ c + (n - c) = omega arith in p) ∙ sym (xs_left_add c (n - c) (tokens_left b ropes mid l)) ∙
      ap (xs_left c) (sym (pushed b ropes (X (n - c)) mid us l is));
}

pub pays_y : (ropes : List (List ℕ)) (c n : ℕ) (ts mid us : List Token) → RopesBelow (length ropes) ts → ts ≡ mid ++ Y n ∷ [] → us ≡ mid ++ Y (n - c) ∷ [] → c ≤ n → Pays ropes c ts us
pays_y ropes c n ts mid us w was is less = record {
  within = within_pushed (length ropes) (Y (n - c)) mid us is (within_rest (length ropes) (Y n) ts mid was w) tt;
  text = λ b l.
      pushed b ropes (Y n) mid ts l was ∙ ap (λ i. xs_left i (tokens_left b ropes mid l)) (let p : n + b ≡ c + ((n - c) + b) = omega arith in p) ∙ sym (xs_left_add c ((n - c) + b) (tokens_left b ropes mid l)) ∙
      ap (xs_left c) (sym (pushed b ropes (Y (n - c)) mid us l is));
}

-- a rope behind a rope
pub rope_joined : (old new : List (List ℕ)) (a i j : ℕ) (ts mid us : List Token) → RopesAdded old new → RopesBelow (length old) ts → ts ≡ mid ++ Rope a ∷ [] → us ≡ mid ++ Rope j ∷ [] →
    (j < length new) × (groups_at new j ≡ groups_at old a ++ groups_at old i) → PutsLeft old new (Rope i) ts us
rope_joined old new a i j ts mid us e w was is both =
    let rest : RopesBelow (length old) mid = within_rest (length old) (Rope a) ts mid was w in
    let g = e.grows in
    record {
      within = within_pushed (length new) (Rope j) mid us is (within_more (length old) (length new) mid (omega arith) rest) both.0;
      text = λ n l.
          pushed n new (Rope j) mid us l is ∙ ap (λ gs. rope_left gs (tokens_left n new mid l)) both.1 ∙ rope_left_append (groups_at old a) (groups_at old i) (tokens_left n new mid l) ∙
          ap (λ x. rope_left (groups_at old i) (rope_left (groups_at old a) x)) (left_kept n old new mid l e rest) ∙ ap (rope_left (groups_at old i)) (sym (pushed n old (Rope a) mid ts l was));
    }

-- a 1 behind 10
pub one_cut : (a b c : List (List ℕ)) (ts us mid vs : List Token) → SameLeft a b ts us → us ≡ mid ++ Cut ∷ [] → PutsLeft b c (X 1) mid vs → PutsLeft a c (Separator 0) ts vs
one_cut a b c ts us mid vs s was p = record {
  within = p.within;
  text = λ n l. p.text n l ∙ sym (one_c (tokens_left n b mid l)) ∙ ap (separator_left 0) (sym (pushed n b Cut mid us l was)) ∙ ap (separator_left 0) (s.text n l);
}

pub one_again : (a b : List (List ℕ)) (top : Token) (ts us mid one vs : List Token) → SameLeft a b ts us → us ≡ mid ++ top ∷ [] → one ≡ mid ++ top ∷ [] → vs ≡ one ++ Separator 0 ∷ [] →
    PutsLeft a b (Separator 0) ts vs
one_again a b top ts us mid one vs s was again is =
    let e : one ≡ us = again ∙ sym was in
    record {
      within = within_pushed (length b) (Separator 0) one vs is (subst (RopesBelow (length b)) (sym e) s.within) tt;
      text = λ n l. pushed n b (Separator 0) one vs l is ∙ ap (λ x. separator_left 0 (tokens_left n b x l)) e ∙ ap (separator_left 0) (s.text n l);
    }

pub one_first : (a b : List (List ℕ)) (ts us mid vs : List Token) → SameLeft a b ts us → us ≡ mid ++ [] → vs ≡ mid ++ Separator 0 ∷ [] → PutsLeft a b (Separator 0) ts vs
one_first a b ts us mid vs s was is =
    let e : mid ≡ us = sym (append-nil mid) ∙ sym was in
    record {
      within = within_pushed (length b) (Separator 0) mid vs is (subst (RopesBelow (length b)) (sym e) s.within) tt;
      text = λ n l. pushed n b (Separator 0) mid vs l is ∙ ap (λ x. separator_left 0 (tokens_left n b x l)) e ∙ ap (separator_left 0) (s.text n l);
    }

pub taken_as : (ts us : List Token) (o : Option Token) (x t : Token) → ts ≡ us ++ option_to_list o → o ≡ Some x → x ≡ t → ts ≡ us ++ t ∷ []
taken_as ts us o x t was is same = taken ts us o x was is ∙ ap (λ y. us ++ y ∷ []) same

-- a token that was pushed on the right
pub pushed_right : (b : ℕ) (ropes : List (List ℕ)) (t : Token) (ts us : List Token) (r : List Sym) → us ≡ ts ++ t ∷ [] → tokens_right b ropes us r ≡ token_right b ropes t (tokens_right b ropes ts r)
pushed_right b ropes t ts us r is = ap (λ x. tokens_right b ropes x r) is ∙ right_push b ropes ts t r

-- a rope put before the right half tape in parts
module _ (old new : List (List ℕ)) (e : RopesAdded old new) (i : ℕ) (ts : List Token) (w : RopesBelow (length old) ts) where
  right_same : (n : ℕ) (r : List Sym) → tokens_right n new ts r ≡ tokens_right n old ts r
  right_same n r = right_kept n old new ts r e w

  pub right_later : RopesBelow (length new) ts
  right_later = let g = e.grows in within_more (length old) (length new) ts (omega arith) w

  pub right_group : (g : ℕ) (one us : List Token) → groups_at old i ≡ g ∷ [] → PutsRight new new (X g) ts one → us ≡ one ++ Cut ∷ [] → PutsRight old new (Rope i) ts us
  right_group g one us is p q = record {
    within = within_pushed (length new) Cut one us q p.within tt;
    text = λ n r.
        pushed_right n new Cut one us r q ∙ ap (λ x. c_right x) (p.text n r) ∙ sym (rope_right_one g (tokens_right n new ts r)) ∙
        ap (λ gs. rope_right gs (tokens_right n new ts r)) (sym is) ∙ ap (rope_right (groups_at old i)) (right_same n r);
  }

  pub right_two : (a b : ℕ) (us : List Token) → (a < length new) × (b < length new) × (groups_at old i ≡ groups_at new a ++ groups_at new b) →
      us ≡ ts ++ Rope b ∷ Rope a ∷ [] → PutsRight old new (Rope i) ts us
  right_two a b us parts all =
      let one : List Token = ts ++ Rope b ∷ [] in
      let p : one ≡ ts ++ Rope b ∷ [] = refl in
      let q = first_pushed ts us (Rope a ∷ []) (Rope b) all in
      record {
        within = within_pushed (length new) (Rope a) one us q (within_pushed (length new) (Rope b) ts one p right_later parts.1) parts.0;
        text = λ n r.
            pushed_right n new (Rope a) one us r q ∙ ap (rope_right (groups_at new a)) (pushed_right n new (Rope b) ts one r p) ∙
            sym (rope_right_append (groups_at new a) (groups_at new b) (tokens_right n new ts r)) ∙ ap (λ gs. rope_right gs (tokens_right n new ts r)) (sym parts.2) ∙ ap (rope_right (groups_at old i)) (right_same n r);
      }

-- Tokens at the end of the left half tape.
pub ends_one : (a b : List (List ℕ)) (top t : Token) (ts us mid : List Token) → SameLeft a b ts us → us ≡ mid ++ top ∷ [] → top ≡ t → EndsWith (t ∷ []) a b ts mid
unfolding tokens_left
ends_one a b top t ts us mid s was is = record {
  within = within_rest (length b) top us mid was s.within;
  text = λ n l. sym (s.text n l) ∙ pushed n b top mid us l was ∙ ap (λ x. token_left n b x (tokens_left n b mid l)) is;
}

pub ends_none : (a : List (List ℕ)) (tail ts : List Token) (n : ℕ) → RopesBelow (length a) ts → n ≡ length tail → EndsWith (drop n tail) a a ts ts
unfolding tokens_left
ends_none a tail ts n w size = record {
  within = w;
  text = λ i l. sym (ap (λ x. tokens_left i a x (tokens_left i a ts l)) (drop_all n tail (omega arith)));
}

within_drop : (k n : ℕ) (ts : List Token) → RopesBelow k ts → RopesBelow k (drop n ts)
unfolding RopesBelow
within_drop k zero ts w = w
within_drop k (suc n) [] w = tt
within_drop k (suc n) (t ∷ ts) w = within_drop k n ts w.1

pub within_append : (k : ℕ) (xs ys : List Token) → RopesBelow k xs → RopesBelow k ys → RopesBelow k (xs ++ ys)
unfolding RopesBelow
within_append k [] ys w v = v
within_append k (x ∷ xs) ys w v = (w.0, within_append k xs ys w.1 v)

-- a further token before those that were taken
pub ends_more : (a b c : List (List ℕ)) (tail : List Token) (n k : ℕ) (t o : Token) (ts us vs : List Token) → RopesAdded b c → ((i : ℕ) → RopesBelow i tail) → k + 1 ≡ n → n ≤ length tail → t ≡ get_or tail k o →
    EndsWith (drop n tail) a b ts us → EndsWith (t ∷ []) b c us vs → EndsWith (drop k tail) a c ts vs
unfolding tokens_left
ends_more a b c tail n k t o ts us vs e free next less is p q =
    let last : drop k tail ≡ t ∷ drop n tail = drop-cons tail k o (omega arith) ∙ ap (λ x. x ∷ drop (suc k) tail) (sym is) ∙ ap (λ i. t ∷ drop i tail) (let z : suc k ≡ n = omega arith in z) in
    record {
      within = q.within;
      text = λ i l.
          p.text i l ∙ sym (left_kept i b c (drop n tail) (tokens_left i b us l) e (within_drop (length b) n tail (free (length b)))) ∙
          ap (tokens_left i c (drop n tail)) (q.text i l) ∙ ap (λ x. tokens_left i c x (tokens_left i c vs l)) (sym last);
    }

-- what was taken put back
pub ends_back : (a b c : List (List ℕ)) (tail : List Token) (n : ℕ) (ts us vs ws : List Token) → RopesAdded b c → ((i : ℕ) → RopesBelow i tail) →
    EndsWith (drop n tail) a b ts us → SameLeft b c us vs → ws ≡ vs ++ drop n tail → SameLeft a c ts ws
ends_back a b c tail n ts us vs ws e free p s is = record {
  within = subst (RopesBelow (length c)) (sym is) (within_append (length c) vs (drop n tail) s.within (within_drop (length c) n tail (free (length c))));
  text = λ i l.
      ap (λ x. tokens_left i c x l) is ∙ left_append i c vs (drop n tail) l ∙ ap (tokens_left i c (drop n tail)) (s.text i l) ∙
      left_kept i b c (drop n tail) (tokens_left i b us l) e (within_drop (length b) n tail (free (length b))) ∙ sym (p.text i l);
}

-- a range up to the end
pub rest_of : (n : ℕ) (ts us vs : List Token) → us ≡ vs ++ take (length ts - n) (drop n ts) → us ≡ vs ++ drop n ts
rest_of n ts us vs is = is ∙ ap (λ x. vs ++ x) (take_all (length ts - n) (drop n ts) (let e = length-drop n ts in omega arith))

-- what was taken put back as it was
pub ends_same : (a b : List (List ℕ)) (tail ts us vs : List Token) → ((i : ℕ) → RopesBelow i tail) → EndsWith tail a b ts us → vs ≡ us ++ tail → SameLeft a b ts vs
ends_same a b tail ts us vs free p is = record {
  within = subst (RopesBelow (length b)) (sym is) (within_append (length b) us tail p.within (free (length b)));
  text = λ i l. ap (λ x. tokens_left i b x l) is ∙ left_append i b us tail l ∙ sym (p.text i l);
}

-- tokens without ropes
abbrev pub is_free : List Token → Bool
is_free [] = true
is_free (X n ∷ ts) = is_free ts
is_free (Y n ∷ ts) = is_free ts
is_free (Cut ∷ ts) = is_free ts
is_free (Separator d ∷ ts) = is_free ts
is_free (Rope i ∷ ts) = false
is_free (Wound i ∷ ts) = false

pub free_within : (ts : List Token) → is_free ts ≡ true → (n : ℕ) → RopesBelow n ts
unfolding RopesBelow
free_within [] e n = tt
free_within (X k ∷ ts) e n = (tt, free_within ts e n)
free_within (Y k ∷ ts) e n = (tt, free_within ts e n)
free_within (Cut ∷ ts) e n = (tt, free_within ts e n)
free_within (Separator d ∷ ts) e n = (tt, free_within ts e n)
free_within (Rope i ∷ ts) e n = absurd (false≢true e)
free_within (Wound i ∷ ts) e n = absurd (false≢true e)

pub glider_free : (n : ℕ) → RopesBelow n glider_tokens
unfolding glider_tokens
glider_free = free_within glider_tokens refl
