-- The laws of tokens.
use Rattle.std.proofs.Common.{◌≡◌, ℕ, ◌+◌, ◌≤◌, List, [], ◌∷◌, ◌++◌, length, sym, ◌∙◌, ap, subst, refl, arith}
use Rattle.std.proofs.lemmas.List.{append-nil}
use Rattle.machine_text.specs.declared.table.Sym.{Sym}
use Rattle.kind_named.specs.inside.Tokens.{xs_left, xs_right, rope_left, rope_right, wound_left, RopesAdded, token_left, token_right, tokens_left, tokens_right, RopeBelow, RopesBelow, Merges, PutsLeft, PutsRight}
use Rattle.kind_named.specs.declared.tokens.Token.{Token}
use Rattle.kind_named.specs.declared.tokens.Token.TheVariants.{X, Y, Cut, Separator, Rope, Wound}
use Rattle.kind_named.proofs.Sweeps.{xs_left_add, xs_right_add}

pub left_append : (b : ℕ) (ropes : List (List ℕ)) (ts us : List Token) (l : List Sym) → tokens_left b ropes (ts ++ us) l ≡ tokens_left b ropes us (tokens_left b ropes ts l)
unfolding tokens_left
left_append b ropes [] us l = refl
left_append b ropes (t ∷ ts) us l = left_append b ropes ts us (token_left b ropes t l)

pub right_append : (b : ℕ) (ropes : List (List ℕ)) (ts us : List Token) (r : List Sym) → tokens_right b ropes (ts ++ us) r ≡ tokens_right b ropes us (tokens_right b ropes ts r)
unfolding tokens_right
right_append b ropes [] us r = refl
right_append b ropes (t ∷ ts) us r = right_append b ropes ts us (token_right b ropes t r)

pub left_push : (b : ℕ) (ropes : List (List ℕ)) (ts : List Token) (t : Token) (l : List Sym) → tokens_left b ropes (ts ++ t ∷ []) l ≡ token_left b ropes t (tokens_left b ropes ts l)
unfolding tokens_left
left_push b ropes ts t l = left_append b ropes ts (t ∷ []) l

pub right_push : (b : ℕ) (ropes : List (List ℕ)) (ts : List Token) (t : Token) (r : List Sym) → tokens_right b ropes (ts ++ t ∷ []) r ≡ token_right b ropes t (tokens_right b ropes ts r)
unfolding tokens_right
right_push b ropes ts t r = right_append b ropes ts (t ∷ []) r

pub within_push : (n : ℕ) (ts : List Token) (t : Token) → RopesBelow n ts → RopeBelow n t → RopesBelow n (ts ++ t ∷ [])
unfolding RopesBelow
within_push n [] t w b = (b, tt)
within_push n (u ∷ ts) t w b = (w.0, within_push n ts t w.1 b)

pub within_first : (n : ℕ) (ts us : List Token) → RopesBelow n (ts ++ us) → RopesBelow n ts
unfolding RopesBelow
within_first n [] us w = tt
within_first n (t ∷ ts) us w = (w.0, within_first n ts us w.1)

pub within_last : (n : ℕ) (ts : List Token) (t : Token) → RopesBelow n (ts ++ t ∷ []) → RopeBelow n t
unfolding RopesBelow
within_last n [] t w = w.0
within_last n (u ∷ ts) t w = within_last n ts t w.1

pub below_more : (n k : ℕ) (t : Token) → n ≤ k → RopeBelow n t → RopeBelow k t
below_more n k (X i) less b = tt
below_more n k (Y i) less b = tt
below_more n k Cut less b = tt
below_more n k (Separator d) less b = tt
below_more n k (Rope i) less b = omega arith
below_more n k (Wound i) less b = omega arith

pub within_more : (n k : ℕ) (ts : List Token) → n ≤ k → RopesBelow n ts → RopesBelow k ts
unfolding RopesBelow
within_more n k [] less w = tt
within_more n k (t ∷ ts) less w = (below_more n k t less w.0, within_more n k ts less w.1)

pub word_l_kept : (b : ℕ) (old new : List (List ℕ)) (t : Token) (l : List Sym) → RopesAdded old new → RopeBelow (length old) t → token_left b new t l ≡ token_left b old t l
word_l_kept b old new (X n) l e w = refl
word_l_kept b old new (Y n) l e w = refl
word_l_kept b old new Cut l e w = refl
word_l_kept b old new (Separator d) l e w = refl
word_l_kept b old new (Rope i) l e w = ap (λ gs. rope_left gs l) (e.keeps i w)
word_l_kept b old new (Wound i) l e w = ap (λ gs. wound_left gs l) (e.keeps i w)

pub word_r_kept : (b : ℕ) (old new : List (List ℕ)) (t : Token) (r : List Sym) → RopesAdded old new → RopeBelow (length old) t → token_right b new t r ≡ token_right b old t r
word_r_kept b old new (X n) r e w = refl
word_r_kept b old new (Y n) r e w = refl
word_r_kept b old new Cut r e w = refl
word_r_kept b old new (Separator d) r e w = refl
word_r_kept b old new (Rope i) r e w = ap (λ gs. rope_right gs r) (e.keeps i w)
word_r_kept b old new (Wound i) r e w = refl

pub left_kept : (b : ℕ) (old new : List (List ℕ)) (ts : List Token) (l : List Sym) → RopesAdded old new → RopesBelow (length old) ts → tokens_left b new ts l ≡ tokens_left b old ts l
unfolding tokens_left RopesBelow
left_kept b old new [] l e w = refl
left_kept b old new (t ∷ ts) l e w = left_kept b old new ts (token_left b new t l) e w.1 ∙ ap (tokens_left b old ts) (word_l_kept b old new t l e w.0)

pub right_kept : (b : ℕ) (old new : List (List ℕ)) (ts : List Token) (r : List Sym) → RopesAdded old new → RopesBelow (length old) ts → tokens_right b new ts r ≡ tokens_right b old ts r
unfolding tokens_right RopesBelow
right_kept b old new [] r e w = refl
right_kept b old new (t ∷ ts) r e w = right_kept b old new ts (token_right b new t r) e w.1 ∙ ap (tokens_right b old ts) (word_r_kept b old new t r e w.0)

-- two groups as one
pub merges_xx : (a c n : ℕ) → n ≡ a + c → Merges (X a) (X c) (X n)
merges_xx a c n is = record {
  left = λ b ropes l. ap (λ i. xs_left i l) (let p : n ≡ c + a = omega arith in p) ∙ sym (xs_left_add c a l);
  right = λ b ropes r. ap (λ i. xs_right i r) (let p : n ≡ c + a = omega arith in p) ∙ sym (xs_right_add c a r);
  below = λ k p q. tt;
}

pub merges_xy : (a c n : ℕ) → n ≡ a + c → Merges (X a) (Y c) (Y n)
merges_xy a c n is = record {
  left = λ b ropes l. ap (λ i. xs_left i l) (let p : n + b ≡ (c + b) + a = omega arith in p) ∙ sym (xs_left_add (c + b) a l);
  right = λ b ropes r. ap (λ i. xs_right i r) (let p : n + b ≡ (c + b) + a = omega arith in p) ∙ sym (xs_right_add (c + b) a r);
  below = λ k p q. tt;
}

pub merges_yx : (a c n : ℕ) → n ≡ a + c → Merges (Y a) (X c) (Y n)
merges_yx a c n is = record {
  left = λ b ropes l. ap (λ i. xs_left i l) (let p : n + b ≡ c + (a + b) = omega arith in p) ∙ sym (xs_left_add c (a + b) l);
  right = λ b ropes r. ap (λ i. xs_right i r) (let p : n + b ≡ c + (a + b) = omega arith in p) ∙ sym (xs_right_add c (a + b) r);
  below = λ k p q. tt;
}

-- a token pushed as it is
pub puts_left : (ropes : List (List ℕ)) (t : Token) (ts us : List Token) → RopesBelow (length ropes) ts → RopeBelow (length ropes) t → us ≡ ts ++ t ∷ [] → PutsLeft ropes ropes t ts us
puts_left ropes t ts us w b is = record {
  within = subst (RopesBelow (length ropes)) (sym is) (within_push (length ropes) ts t w b);
  text = λ n l. ap (λ x. tokens_left n ropes x l) is ∙ left_push n ropes ts t l;
}

pub puts_right : (ropes : List (List ℕ)) (t : Token) (ts us : List Token) → RopesBelow (length ropes) ts → RopeBelow (length ropes) t → us ≡ ts ++ t ∷ [] → PutsRight ropes ropes t ts us
puts_right ropes t ts us w b is = record {
  within = subst (RopesBelow (length ropes)) (sym is) (within_push (length ropes) ts t w b);
  text = λ n l. ap (λ x. tokens_right n ropes x l) is ∙ right_push n ropes ts t l;
}

-- a token that was merged with the last one
pub puts_left_merged : (ropes : List (List ℕ)) (top t both : Token) (ts mid us : List Token) → Merges top t both → RopesBelow (length ropes) ts → RopeBelow (length ropes) t →
    ts ≡ mid ++ top ∷ [] → us ≡ mid ++ both ∷ [] → PutsLeft ropes ropes t ts us
puts_left_merged ropes top t both ts mid us mg w b was is =
    let old : RopesBelow (length ropes) (mid ++ top ∷ []) = subst (RopesBelow (length ropes)) was w in
    record {
      within = subst (RopesBelow (length ropes)) (sym is) (within_push (length ropes) mid both (within_first (length ropes) mid (top ∷ []) old) (mg.below (length ropes) (within_last (length ropes) mid top old) b));
      text = λ n l.
          ap (λ x. tokens_left n ropes x l) is ∙ left_push n ropes mid both l ∙ mg.left n ropes (tokens_left n ropes mid l) ∙
          ap (token_left n ropes t) (sym (left_push n ropes mid top l) ∙ ap (λ x. tokens_left n ropes x l) (sym was));
    }

pub puts_right_merged : (ropes : List (List ℕ)) (top t both : Token) (ts mid us : List Token) → Merges top t both → RopesBelow (length ropes) ts → RopeBelow (length ropes) t →
    ts ≡ mid ++ top ∷ [] → us ≡ mid ++ both ∷ [] → PutsRight ropes ropes t ts us
puts_right_merged ropes top t both ts mid us mg w b was is =
    let old : RopesBelow (length ropes) (mid ++ top ∷ []) = subst (RopesBelow (length ropes)) was w in
    record {
      within = subst (RopesBelow (length ropes)) (sym is) (within_push (length ropes) mid both (within_first (length ropes) mid (top ∷ []) old) (mg.below (length ropes) (within_last (length ropes) mid top old) b));
      text = λ n l.
          ap (λ x. tokens_right n ropes x l) is ∙ right_push n ropes mid both l ∙ mg.right n ropes (tokens_right n ropes mid l) ∙
          ap (token_right n ropes t) (sym (right_push n ropes mid top l) ∙ ap (λ x. tokens_right n ropes x l) (sym was));
    }

-- the same, by the two tokens' kinds
pub merges_at_xx : (top token : Token) (a c n : ℕ) → top ≡ X a → token ≡ X c → n ≡ a + c → Merges top token (X n)
merges_at_xx top token a c n p q is = subst (λ x. Merges x token (X n)) (sym p) (subst (λ x. Merges (X a) x (X n)) (sym q) (merges_xx a c n is))

pub merges_at_xy : (top token : Token) (a c n : ℕ) → top ≡ X a → token ≡ Y c → n ≡ a + c → Merges top token (Y n)
merges_at_xy top token a c n p q is = subst (λ x. Merges x token (Y n)) (sym p) (subst (λ x. Merges (X a) x (Y n)) (sym q) (merges_xy a c n is))

pub merges_at_yx : (top token : Token) (a c n : ℕ) → top ≡ Y a → token ≡ X c → n ≡ a + c → Merges top token (Y n)
merges_at_yx top token a c n p q is = subst (λ x. Merges x token (Y n)) (sym p) (subst (λ x. Merges (Y a) x (Y n)) (sym q) (merges_yx a c n is))

-- nothing was taken off, and a token was put; a token was taken off, put back, and one more
pub puts_left_first : (ropes : List (List ℕ)) (t : Token) (ts mid us : List Token) → RopesBelow (length ropes) ts → RopeBelow (length ropes) t →
    ts ≡ mid ++ [] → us ≡ mid ++ t ∷ [] → PutsLeft ropes ropes t ts us
puts_left_first ropes t ts mid us w b was is = puts_left ropes t ts us w b (is ∙ ap (λ x. x ++ t ∷ []) (sym (append-nil mid) ∙ sym was))

pub puts_right_first : (ropes : List (List ℕ)) (t : Token) (ts mid us : List Token) → RopesBelow (length ropes) ts → RopeBelow (length ropes) t →
    ts ≡ mid ++ [] → us ≡ mid ++ t ∷ [] → PutsRight ropes ropes t ts us
puts_right_first ropes t ts mid us w b was is = puts_right ropes t ts us w b (is ∙ ap (λ x. x ++ t ∷ []) (sym (append-nil mid) ∙ sym was))

pub puts_left_again : (ropes : List (List ℕ)) (top t : Token) (ts mid one us : List Token) → RopesBelow (length ropes) ts → RopeBelow (length ropes) t →
    ts ≡ mid ++ top ∷ [] → one ≡ mid ++ top ∷ [] → us ≡ one ++ t ∷ [] → PutsLeft ropes ropes t ts us
puts_left_again ropes top t ts mid one us w b was again is = puts_left ropes t ts us w b (is ∙ ap (λ x. x ++ t ∷ []) (again ∙ sym was))

pub puts_right_again : (ropes : List (List ℕ)) (top t : Token) (ts mid one us : List Token) → RopesBelow (length ropes) ts → RopeBelow (length ropes) t →
    ts ≡ mid ++ top ∷ [] → one ≡ mid ++ top ∷ [] → us ≡ one ++ t ∷ [] → PutsRight ropes ropes t ts us
puts_right_again ropes top t ts mid one us w b was again is = puts_right ropes t ts us w b (is ∙ ap (λ x. x ++ t ∷ []) (again ∙ sym was))

-- no x
pub puts_left_none : (ropes : List (List ℕ)) (n : ℕ) (t : Token) (ts : List Token) → RopesBelow (length ropes) ts → t ≡ X n → n ≡ 0 → PutsLeft ropes ropes t ts ts
unfolding xs_left
puts_left_none ropes n t ts w is z = record {
  within = w;
  text = λ b l. ap (λ i. xs_left i (tokens_left b ropes ts l)) (sym z) ∙ ap (λ x. token_left b ropes x (tokens_left b ropes ts l)) (sym is);
}

pub puts_right_none : (ropes : List (List ℕ)) (n : ℕ) (t : Token) (ts : List Token) → RopesBelow (length ropes) ts → t ≡ X n → n ≡ 0 → PutsRight ropes ropes t ts ts
unfolding xs_right
puts_right_none ropes n t ts w is z = record {
  within = w;
  text = λ b r. ap (λ i. xs_right i (tokens_right b ropes ts r)) (sym z) ∙ ap (λ x. token_right b ropes x (tokens_right b ropes ts r)) (sym is);
}
