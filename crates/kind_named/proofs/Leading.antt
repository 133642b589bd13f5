-- Each rule on tokens, whichever way the head goes, leads the run from one spot to another.
use Rattle.std.proofs.Common.{◌≡◌, ℕ, ◌+◌, List, [], ◌∷◌, ◌++◌, length, sym, ◌∙◌, ap, subst, refl, arith, zero, suc, ◌-◌, ◌%◌, ◌<◌, true, ◌==◌, eqb→eq, T}
use Rattle.std.proofs.lemmas.List.{append-nil}
use Rattle.machine_text.specs.declared.table.Sym.{Sym}
use Rattle.law_machines.specs.Terms.{Zipper, Comes}
use Rattle.law_machines.proofs.RuleLaws.{same, ◌⨾◌, stay}
use Rattle.kind_named.specs.inside.Tokens.{machine, leftward, rightward, xs_left, c_left, separator_left, groups_at, RopesAdded, token_left, token_right, tokens_left, tokens_right, RopesBelow, PutsRight, SameLeft, Pays, BothRopesBelow, TurnsAt, Leads, IsPlain, zipper_to, xs_right, c_right, rope_left, rope_right, turned, AreOdd, AreLong, PutsLeft, PassesTo, Winds, Spot, Visited}
use Rattle.kind_named.specs.declared.visit.Answer.{Answer}
use Rattle.kind_named.specs.declared.visit.Answer.TheVariants.{A, C}
use Rattle.kind_named.specs.declared.tokens.Heading.{Heading}
use Rattle.kind_named.specs.declared.tokens.Heading.TheVariants.{Left, Right}
use Rattle.kind_named.specs.declared.tokens.Beyond.{Beyond}
use Rattle.kind_named.specs.declared.tokens.Beyond.TheVariants.{Blank}
use Rattle.kind_named.specs.declared.tokens.Token.{Token}
use Rattle.kind_named.specs.declared.tokens.Token.TheVariants.{X, Y, Cut, Separator, Rope, Wound}
use Rattle.kind_named.proofs.Sweeps.{rule2, leftward_x, leftward_rope, leftward_s0, leftward_s1, leftward_s2, leftward_s2_s0, leftward_s2_s2, leftward_blank, turned_even, turned_add, rule7, rightward_x, rightward_rope, rightward_group, rightward_wound, rightward_cc, rightward_c_x}
use Rattle.kind_named.proofs.TokenLaws.{right_kept, left_kept}
use Rattle.kind_named.proofs.Openings.{pushed, first_pushed, within_pushed, within_rest, right_later, pushed_right}
use Rattle.kind_named.proofs.ArenaLaws.{extends_on}

-- Each rule on tokens leads the run from one spot to another.

-- the same, between zippers written otherwise
pub via : {z y x w : Zipper} → z ≡ y → Comes machine y x → x ≡ w → Comes machine z w
via p f q = same machine p ⨾ f ⨾ same machine q

s0_one : (l r : List Sym) → Comes machine (leftward (separator_left 0 (xs_left 1 l)) r) (rightward A (xs_left 1 (separator_left 1 l)) r)
unfolding xs_left
s0_one l r = leftward_s0 0 l r

s2_one : (l r : List Sym) → Comes machine (leftward (separator_left 2 (xs_left 1 l)) r) (rightward A (xs_left 1 (c_left (c_left l))) r)
unfolding xs_left
s2_one l r = leftward_s2 0 l r

-- the separators
pub turns_zero : (a b : List (List ℕ)) (d : ℕ) (ts us mid vs : List Token) → d ≡ 0 → SameLeft a b ts us → Pays b 1 us mid → vs ≡ mid ++ Separator 1 ∷ X 1 ∷ [] → TurnsAt d A a b ts vs
turns_zero a b d ts us mid vs is s p all =
    let one : List Token = mid ++ Separator 1 ∷ [] in
    let q : one ≡ mid ++ Separator 1 ∷ [] = refl in
    let r = first_pushed mid vs (X 1 ∷ []) (Separator 1) all in
    record {
      within = within_pushed (length b) (X 1) one vs r (within_pushed (length b) (Separator 1) mid one q p.within tt) tt;
      run = λ n l k.
          via (ap (λ i. leftward (separator_left i (tokens_left n a ts l)) k) is ∙ ap (λ x. leftward (separator_left 0 x) k) (sym (s.text n l) ∙ p.text n l))
          (s0_one (tokens_left n b mid l) k)
          (ap (λ x. rightward A x k) (ap (xs_left 1) (sym (pushed n b (Separator 1) mid one l q)) ∙ sym (pushed n b (X 1) one vs l r)));
    }

pub turns_one : (a : List (List ℕ)) (d : ℕ) (ts vs : List Token) → d ≡ 1 → RopesBelow (length a) ts → vs ≡ ts ++ Separator 2 ∷ X 1 ∷ [] → TurnsAt d C a a ts vs
turns_one a d ts vs is w all =
    let one : List Token = ts ++ Separator 2 ∷ [] in
    let q : one ≡ ts ++ Separator 2 ∷ [] = refl in
    let r = first_pushed ts vs (X 1 ∷ []) (Separator 2) all in
    record {
      within = within_pushed (length a) (X 1) one vs r (within_pushed (length a) (Separator 2) ts one q w tt) tt;
      run = λ n l k.
          via (ap (λ i. leftward (separator_left i (tokens_left n a ts l)) k) is)
          (leftward_s1 (tokens_left n a ts l) k)
          (ap (λ x. rightward C x k) (ap (xs_left 1) (sym (pushed n a (Separator 2) ts one l q)) ∙ sym (pushed n a (X 1) one vs l r)));
    }

pub turns_opened : (a b : List (List ℕ)) (d : ℕ) (ts us vs : List Token) → d ≡ 2 → SameLeft a b ts us → TurnsAt 2 A b b us vs → TurnsAt d A a b ts vs
turns_opened a b d ts us vs is s t = record {
  within = t.within;
  run = λ n l k. via (ap (λ i. leftward (separator_left i (tokens_left n a ts l)) k) is ∙ ap (λ x. leftward (separator_left 2 x) k) (sym (s.text n l))) (t.run n l k) refl;
}

pub turns_two_s0 : (a : List (List ℕ)) (d : ℕ) (top : Token) (ts mid vs : List Token) → RopesBelow (length a) ts → ts ≡ mid ++ top ∷ [] → top ≡ Separator d → d ≡ 0 →
    vs ≡ mid ++ Cut ∷ X 1 ∷ [] → TurnsAt 2 A a a ts vs
turns_two_s0 a d top ts mid vs w was is none all =
    let one : List Token = mid ++ Cut ∷ [] in
    let q : one ≡ mid ++ Cut ∷ [] = refl in
    let r = first_pushed mid vs (X 1 ∷ []) Cut all in
    let t : ts ≡ mid ++ Separator 0 ∷ [] = was ∙ ap (λ x. mid ++ x ∷ []) (is ∙ ap Separator none) in
    record {
      within = within_pushed (length a) (X 1) one vs r (within_pushed (length a) Cut mid one q (within_rest (length a) (Separator 0) ts mid t w) tt) tt;
      run = λ n l k.
          via (ap (λ x. leftward (separator_left 2 x) k) (pushed n a (Separator 0) mid ts l t))
          (leftward_s2_s0 (tokens_left n a mid l) k)
          (ap (λ x. rightward A x k) (ap (xs_left 1) (sym (pushed n a Cut mid one l q)) ∙ sym (pushed n a (X 1) one vs l r)));
    }

pub turns_two_s2 : (a : List (List ℕ)) (d : ℕ) (top : Token) (ts mid vs : List Token) → RopesBelow (length a) ts → ts ≡ mid ++ top ∷ [] → top ≡ Separator d → d ≡ 2 →
    vs ≡ mid ++ Separator 0 ∷ Cut ∷ X 1 ∷ [] → TurnsAt 2 A a a ts vs
turns_two_s2 a d top ts mid vs w was is even all =
    let one : List Token = mid ++ Separator 0 ∷ [] in
    let two : List Token = one ++ Cut ∷ [] in
    let p : one ≡ mid ++ Separator 0 ∷ [] = refl in
    let q : two ≡ one ++ Cut ∷ [] = refl in
    let r = first_pushed one vs (X 1 ∷ []) Cut (first_pushed mid vs (Cut ∷ X 1 ∷ []) (Separator 0) all) in
    let t : ts ≡ mid ++ Separator 2 ∷ [] = was ∙ ap (λ x. mid ++ x ∷ []) (is ∙ ap Separator even) in
    record {
      within = within_pushed (length a) (X 1) two vs r (within_pushed (length a) Cut one two q (within_pushed (length a) (Separator 0) mid one p (within_rest (length a) (Separator 2) ts mid t w) tt) tt) tt;
      run = λ n l k.
          via (ap (λ x. leftward (separator_left 2 x) k) (pushed n a (Separator 2) mid ts l t))
          (leftward_s2_s2 (tokens_left n a mid l) k)
          (ap (λ x. rightward A x k) (ap (λ x. xs_left 1 (c_left x)) (sym (pushed n a (Separator 0) mid one l p)) ∙ ap (xs_left 1) (sym (pushed n a Cut one two l q)) ∙ sym (pushed n a (X 1) two vs l r)));
    }

pub turns_two_paid : (a : List (List ℕ)) (top : Token) (ts mid again us vs : List Token) → ts ≡ mid ++ top ∷ [] → again ≡ mid ++ top ∷ [] → Pays a 1 again us →
    vs ≡ us ++ Cut ∷ Cut ∷ X 1 ∷ [] → TurnsAt 2 A a a ts vs
turns_two_paid a top ts mid again us vs was still pays all =
    let one : List Token = us ++ Cut ∷ [] in
    let two : List Token = one ++ Cut ∷ [] in
    let p : one ≡ us ++ Cut ∷ [] = refl in
    let q : two ≡ one ++ Cut ∷ [] = refl in
    let r = first_pushed one vs (X 1 ∷ []) Cut (first_pushed us vs (Cut ∷ X 1 ∷ []) Cut all) in
    record {
      within = within_pushed (length a) (X 1) two vs r (within_pushed (length a) Cut one two q (within_pushed (length a) Cut us one p pays.within tt) tt) tt;
      run = λ n l k.
          via (ap (λ x. leftward (separator_left 2 x) k) (ap (λ y. tokens_left n a y l) (was ∙ sym still) ∙ pays.text n l))
          (s2_one (tokens_left n a us l) k)
          (ap (λ x. rightward A x k) (ap (λ x. xs_left 1 (c_left x)) (sym (pushed n a Cut us one l p)) ∙ ap (xs_left 1) (sym (pushed n a Cut one two l q)) ∙ sym (pushed n a (X 1) two vs l r)));
    }

-- to the left
crosses : (t : Token) → IsPlain t → (b : ℕ) (ropes : List (List ℕ)) (l r : List Sym) → Comes machine (leftward (token_left b ropes t l) r) (leftward l (token_right b ropes t r))
crosses (X n) plain b ropes l r = leftward_x n l r
crosses (Y n) plain b ropes l r = leftward_x (n + b) l r
crosses Cut plain b ropes l r = rule2 l r
crosses (Separator d) plain b ropes l r = absurd plain
crosses (Rope i) plain b ropes l r = leftward_rope (groups_at ropes i) l r
crosses (Wound i) plain b ropes l r = absurd plain

pub lead_cross : (beyond : Beyond) (a : List (List ℕ)) (t : Token) (ts us ps qs : List Token) → BothRopesBelow a ts ps → ts ≡ us ++ t ∷ [] → IsPlain t → PutsRight a a t ps qs →
    Leads beyond (record { ropes = a; lefts = ts; rights = ps; heading = Left }) (record { ropes = a; lefts = us; rights = qs; heading = Left })
lead_cross beyond a t ts us ps qs sound was plain p = record {
  sound = record { on_left = within_rest (length a) t ts us was sound.on_left; on_right = p.within };
  run = λ n even l r free.
      via (ap (λ x. leftward x (tokens_right n a ps r)) (pushed n a t us ts l was))
      (crosses t plain n a (tokens_left n a us l) (tokens_right n a ps r))
      (ap (leftward (tokens_left n a us l)) (sym (p.text n r)));
}

-- what is behind the change is the same later
module _ (beyond : Beyond) (a b : List (List ℕ)) (e : RopesAdded a b) (ts us ps : List Token) (sound : BothRopesBelow a ts ps) where
  later : RopesBelow (length b) ps
  later = right_later a b e 0 ps sound.on_right

  pub lead_same : (heading : Heading) → SameLeft a b ts us →
      Leads beyond (record { ropes = a; lefts = ts; rights = ps; heading = heading }) (record { ropes = b; lefts = us; rights = ps; heading = heading })
  lead_same heading s = record {
    sound = record { on_left = s.within; on_right = later };
    run = λ n even l r free. same machine (ap (λ x. zipper_to heading x (tokens_right n a ps r)) (sym (s.text n l)) ∙ ap (zipper_to heading (tokens_left n b us l)) (sym (right_kept n a b ps r e sound.on_right)));
  }

  pub lead_separator : (d : ℕ) (x : Answer) (top : Token) (mid : List Token) → ts ≡ mid ++ top ∷ [] → top ≡ Separator d → TurnsAt d x a b mid us →
      Leads beyond (record { ropes = a; lefts = ts; rights = ps; heading = Left }) (record { ropes = b; lefts = us; rights = ps; heading = Right x })
  lead_separator d x top mid was is t = record {
    sound = record { on_left = t.within; on_right = later };
    run = λ n even l r free.
        via (ap (λ y. leftward y (tokens_right n a ps r)) (pushed n a top mid ts l was ∙ ap (λ y. token_left n a y (tokens_left n a mid l)) is))
        (t.run n l (tokens_right n a ps r))
        (ap (rightward x (tokens_left n b us l)) (sym (right_kept n a b ps r e sound.on_right)));
  }

-- the blank end
pub lead_blank : (beyond : Beyond) (a : List (List ℕ)) (ts us vs ps : List Token) → BothRopesBelow a ts ps → beyond ≡ Blank → length ts ≡ 0 → ts ≡ us ++ [] → vs ≡ us ++ Separator 0 ∷ X 1 ∷ [] →
    Leads beyond (record { ropes = a; lefts = ts; rights = ps; heading = Left }) (record { ropes = a; lefts = vs; rights = ps; heading = Right C })
unfolding tokens_left
lead_blank beyond a [] us vs ps sound ends size was all =
    let one : List Token = us ++ Separator 0 ∷ [] in
    let p : one ≡ us ++ Separator 0 ∷ [] = refl in
    let q = first_pushed us vs (X 1 ∷ []) (Separator 0) all in
    let e : us ≡ [] = sym (append-nil us) ∙ sym was in
    record {
      sound = record { on_left = within_pushed (length a) (X 1) one vs q (within_pushed (length a) (Separator 0) us one p (subst (RopesBelow (length a)) (sym e) sound.on_left) tt) tt; on_right = sound.on_right };
      run = λ n even l r free.
          let blank : l ≡ [] = free ends in
          via (ap (λ x. leftward x (tokens_right n a ps r)) blank)
          (leftward_blank (tokens_right n a ps r))
          (ap (λ x. rightward C x (tokens_right n a ps r))
          (ap (λ x. xs_left 1 (separator_left 0 x)) (sym blank ∙ ap (λ x. tokens_left n a x l) (sym e)) ∙ ap (xs_left 1) (sym (pushed n a (Separator 0) us one l p)) ∙ sym (pushed n a (X 1) one vs l q)));
    }
lead_blank beyond a (t ∷ ts) us vs ps sound ends size was all = absurd (omega arith)

-- The rules where the head goes to the right.

-- the last token of the right half tape, by what it is
top_right : (n : ℕ) (ropes : List (List ℕ)) (top t : Token) (ps qs : List Token) (r : List Sym) → ps ≡ qs ++ top ∷ [] → top ≡ t → tokens_right n ropes ps r ≡ token_right n ropes t (tokens_right n ropes qs r)
top_right n ropes top t ps qs r was is = pushed_right n ropes top qs ps r was ∙ ap (λ x. token_right n ropes x (tokens_right n ropes qs r)) is

-- c in A
pub passes_cut : (a : List (List ℕ)) (ts us ps qs : List Token) → BothRopesBelow a ts ps → ps ≡ qs → us ≡ ts ++ Cut ∷ [] → PassesTo (λ l r. rightward A l (c_right r)) (Right C) a a ts us ps qs
passes_cut a ts us ps qs sound e p = record {
  sound = record { on_left = within_pushed (length a) Cut ts us p sound.on_left tt; on_right = subst (RopesBelow (length a)) e sound.on_right };
  run = λ n even l r.
      via (ap (λ x. rightward A (tokens_left n a ts l) (c_right (tokens_right n a x r))) e)
      (rule7 (tokens_left n a ts l) (tokens_right n a qs r))
      (ap (λ x. rightward C x (tokens_right n a qs r)) (sym (pushed n a Cut ts us l p)));
}

pub passes_group : (a b c : List (List ℕ)) (i g : ℕ) (top : Token) (ts us ps qs : List Token) → BothRopesBelow a ts ps → RopesAdded a b → RopesAdded b c → ps ≡ qs ++ top ∷ [] → (top ≡ X g) × (g % 2 ≡ 1) →
    groups_at b i ≡ g ∷ [] → PutsLeft b c (Rope i) ts us → PassesTo (λ l r. rightward A l (c_right r)) (Right A) a c ts us ps qs
unfolding rope_left
passes_group a b c i g top ts us ps qs sound e f was is new p =
    let rest : RopesBelow (length a) qs = within_rest (length a) top ps qs was sound.on_right in
    let all = extends_on a b c e f in
    record {
      sound = record { on_left = p.within; on_right = right_later a c all 0 qs rest };
      run = λ n even l r.
          via (ap (λ x. rightward A (tokens_left n a ts l) (c_right x)) (top_right n a top (X g) ps qs r was is.0))
          (rightward_group g is.1 (tokens_left n a ts l) (tokens_right n a qs r))
          (ap (λ x. rightward A x (tokens_right n a qs r)) (ap (λ x. rope_left (g ∷ []) x) (sym (left_kept n a b ts l e sound.on_left)) ∙ ap (λ gs. rope_left gs (tokens_left n b ts l)) (sym new) ∙ sym (p.text n l)) ∙
          ap (rightward A (tokens_left n c us l)) (sym (right_kept n a c qs r all rest)));
    }

-- c in C
pub passes_cc : (a b c : List (List ℕ)) (top : Token) (ts us vs ps qs : List Token) → BothRopesBelow a ts ps → RopesAdded a b → RopesAdded b c → ps ≡ qs ++ top ∷ [] → top ≡ Cut →
    PutsLeft a b (Separator 0) ts us → PutsLeft b c (X 1) us vs → PassesTo (λ l r. rightward C l (c_right r)) (Right C) a c ts vs ps qs
passes_cc a b c top ts us vs ps qs sound e f was is p q =
    let rest : RopesBelow (length a) qs = within_rest (length a) top ps qs was sound.on_right in
    let all = extends_on a b c e f in
    record {
      sound = record { on_left = q.within; on_right = right_later a c all 0 qs rest };
      run = λ n even l r.
          via (ap (λ x. rightward C (tokens_left n a ts l) (c_right x)) (top_right n a top Cut ps qs r was is))
          (rightward_cc (tokens_left n a ts l) (tokens_right n a qs r))
          (ap (λ x. rightward C x (tokens_right n a qs r)) (ap (xs_left 1) (sym (p.text n l)) ∙ sym (q.text n l)) ∙ ap (rightward C (tokens_left n c vs l)) (sym (right_kept n a c qs r all rest)));
    }

-- c x in C: the group falls by one
falls : (g : ℕ) (l r : List Sym) → 0 < g → Comes machine (rightward C l (c_right (xs_right g r))) (leftward (separator_left 0 l) (c_right (xs_right (g - 1) r)))
falls zero l r some = absurd (omega arith)
falls (suc g) l r some = rightward_c_x g l r ⨾ same machine (ap (λ i. leftward (separator_left 0 l) (c_right (xs_right i r))) (let p : g ≡ suc g - 1 = omega arith in p))

module _ (a b : List (List ℕ)) (e : RopesAdded a b) (g : ℕ) (some : 0 < g) (top : Token) (ts us ps mid one qs : List Token) (sound : BothRopesBelow a ts ps) (was : ps ≡ mid ++ top ∷ [])
    (put : qs ≡ one ++ Cut ∷ []) (p : PutsLeft a b (Separator 0) ts us) where
  pub passes_c_x : top ≡ X g → PutsRight a a (X (g - 1)) mid one → PassesTo (λ l r. rightward C l (c_right r)) Left a b ts us ps qs
  passes_c_x is q =
      let now : RopesBelow (length a) qs = within_pushed (length a) Cut one qs put q.within tt in
      record {
        sound = record { on_left = p.within; on_right = right_later a b e 0 qs now };
        run = λ n even l r.
            via (ap (λ x. rightward C (tokens_left n a ts l) (c_right x)) (top_right n a top (X g) ps mid r was is))
            (falls g (tokens_left n a ts l) (tokens_right n a mid r) some)
            (ap (λ x. leftward x (c_right (xs_right (g - 1) (tokens_right n a mid r)))) (sym (p.text n l)) ∙
            ap (λ x. leftward (tokens_left n b us l) x) (ap (λ x. c_right x) (sym (q.text n r)) ∙ sym (pushed_right n a Cut one qs r put) ∙ sym (right_kept n a b qs r e now)));
      }

  pub passes_c_y : top ≡ Y g → PutsRight a a (Y (g - 1)) mid one → PassesTo (λ l r. rightward C l (c_right r)) Left a b ts us ps qs
  passes_c_y is q =
      let now : RopesBelow (length a) qs = within_pushed (length a) Cut one qs put q.within tt in
      record {
        sound = record { on_left = p.within; on_right = right_later a b e 0 qs now };
        run = λ n even l r.
            via (ap (λ x. rightward C (tokens_left n a ts l) (c_right x)) (top_right n a top (Y g) ps mid r was is))
            (falls (g + n) (tokens_left n a ts l) (tokens_right n a mid r) (omega arith))
            (ap (λ i. leftward (separator_left 0 (tokens_left n a ts l)) (c_right (xs_right i (tokens_right n a mid r)))) (let x : g + n - 1 ≡ (g - 1) + n = omega arith in x) ∙
            ap (λ x. leftward x (c_right (xs_right ((g - 1) + n) (tokens_right n a mid r)))) (sym (p.text n l)) ∙
            ap (λ x. leftward (tokens_left n b us l) x) (ap (λ x. c_right x) (sym (q.text n r)) ∙ sym (pushed_right n a Cut one qs r put) ∙ sym (right_kept n a b qs r e now)));
      }

-- ropes
pub passes_rope : (a b : List (List ℕ)) (i : ℕ) (x : Answer) (ts us ps : List Token) → BothRopesBelow a ts ps → RopesAdded a b → AreOdd (groups_at a i) → x ≡ A → PutsLeft a b (Rope i) ts us →
    PassesTo (λ l r. rightward x l (rope_right (groups_at a i) r)) (Right x) a b ts us ps ps
passes_rope a b i x ts us ps sound e odd is p = record {
  sound = record { on_left = p.within; on_right = right_later a b e 0 ps sound.on_right };
  run = λ n even l r.
      via (ap (λ y. rightward y (tokens_left n a ts l) (rope_right (groups_at a i) (tokens_right n a ps r))) is)
      (rightward_rope (groups_at a i) odd (tokens_left n a ts l) (tokens_right n a ps r))
      (ap (λ y. rightward A y (tokens_right n a ps r)) (sym (p.text n l)) ∙ ap (rightward A (tokens_left n b us l)) (sym (right_kept n a b ps r e sound.on_right)) ∙ ap (λ y. rightward y (tokens_left n b us l) (tokens_right n b ps r)) (sym is));
}

pub winds_put : (a b : List (List ℕ)) (i : ℕ) (ts mid one us : List Token) → AreOdd (groups_at a i) → AreLong (groups_at a i) → Pays a 1 ts mid → one ≡ mid ++ Wound i ∷ [] → PutsLeft a b (X 1) one us →
    Winds (groups_at a i) a b ts us
winds_put a b i ts mid one us odd long pays is p = record {
  within = p.within;
  run = λ n l r.
      via (ap (λ x. rightward C x (rope_right (groups_at a i) r)) (pays.text n l))
      (rightward_wound (groups_at a i) odd long (tokens_left n a mid l) r)
      (ap (λ x. rightward C x r) (ap (xs_left 1) (sym (pushed n a (Wound i) mid one l is)) ∙ sym (p.text n l)));
}

pub passes_wound : (a b c : List (List ℕ)) (i : ℕ) (x : Answer) (ts mid us ps : List Token) → BothRopesBelow a ts ps → RopesAdded a b → RopesAdded b c → i < length a → x ≡ C →
    SameLeft a b ts mid → Winds (groups_at b i) b c mid us → PassesTo (λ l r. rightward x l (rope_right (groups_at a i) r)) (Right x) a c ts us ps ps
passes_wound a b c i x ts mid us ps sound e f less is s w =
    let all = extends_on a b c e f in
    record {
      sound = record { on_left = w.within; on_right = right_later a c all 0 ps sound.on_right };
      run = λ n even l r.
          via (ap (λ y. rightward y (tokens_left n a ts l) (rope_right (groups_at a i) (tokens_right n a ps r))) is ∙ ap (λ y. rightward C y (rope_right (groups_at a i) (tokens_right n a ps r))) (sym (s.text n l)) ∙
          ap (λ gs. rightward C (tokens_left n b mid l) (rope_right gs (tokens_right n a ps r))) (sym (e.keeps i less)))
          (w.run n l (tokens_right n a ps r))
          (ap (rightward C (tokens_left n c us l)) (sym (right_kept n a c ps r all sound.on_right)) ∙ ap (λ y. rightward y (tokens_left n c us l) (tokens_right n c ps r)) (sym is));
    }

pub passes_opened : (a b c : List (List ℕ)) (i : ℕ) (x : Answer) (ts us ps qs : List Token) → BothRopesBelow a ts ps → RopesAdded a b → RopesAdded b c → i < length a →
    SameLeft a b ts us → PutsRight b c (Rope i) ps qs → PassesTo (λ l r. rightward x l (rope_right (groups_at a i) r)) (Right x) a c ts us ps qs
passes_opened a b c i x ts us ps qs sound e f less s p = record {
  sound = record { on_left = right_later b c f 0 us s.within; on_right = p.within };
  run = λ n even l r.
      same machine (ap (λ y. rightward x y (rope_right (groups_at a i) (tokens_right n a ps r))) (sym (s.text n l) ∙ sym (left_kept n b c us l f s.within)) ∙
      ap (rightward x (tokens_left n c us l)) (ap (λ gs. rope_right gs (tokens_right n a ps r)) (sym (e.keeps i less)) ∙ ap (rope_right (groups_at b i)) (sym (right_kept n a b ps r e sound.on_right)) ∙ sym (p.text n r)));
}

-- the last token on the right was taken off
module _ (beyond : Beyond) (a b : List (List ℕ)) (x : Answer) (top : Token) (ts us ps mid : List Token) (was : ps ≡ mid ++ top ∷ []) where
  pub lead_cut : (qs : List Token) (heading : Heading) → top ≡ Cut → PassesTo (λ l r. rightward x l (c_right r)) heading a b ts us mid qs →
      Leads beyond (record { ropes = a; lefts = ts; rights = ps; heading = Right x }) (record { ropes = b; lefts = us; rights = qs; heading = heading })
  lead_cut qs heading is p = record {
    sound = p.sound;
    run = λ n even l r free. via (ap (rightward x (tokens_left n a ts l)) (top_right n a top Cut ps mid r was is)) (p.run n even l r) refl;
  }

  pub lead_rope : (qs : List Token) (i : ℕ) → top ≡ Rope i → PassesTo (λ l r. rightward x l (rope_right (groups_at a i) r)) (Right x) a b ts us mid qs →
      Leads beyond (record { ropes = a; lefts = ts; rights = ps; heading = Right x }) (record { ropes = b; lefts = us; rights = qs; heading = Right x })
  lead_rope qs i is p = record {
    sound = p.sound;
    run = λ n even l r free. via (ap (rightward x (tokens_left n a ts l)) (top_right n a top (Rope i) ps mid r was is)) (p.run n even l r) refl;
  }

  module _ (sound : BothRopesBelow a ts ps) (e : RopesAdded a b) (y : Answer) (g : ℕ) (turns : y ≡ turned x g) where
    rest : RopesBelow (length a) mid
    rest = within_rest (length a) top ps mid was sound.on_right

    pub lead_x : top ≡ X g → PutsLeft a b (X g) ts us → Leads beyond (record { ropes = a; lefts = ts; rights = ps; heading = Right x }) (record { ropes = b; lefts = us; rights = mid; heading = Right y })
    lead_x is p = record {
      sound = record { on_left = p.within; on_right = right_later a b e 0 mid rest };
      run = λ n even l r free.
          via (ap (rightward x (tokens_left n a ts l)) (top_right n a top (X g) ps mid r was is))
          (rightward_x g x (tokens_left n a ts l) (tokens_right n a mid r))
          (ap (λ z. rightward z (xs_left g (tokens_left n a ts l)) (tokens_right n a mid r)) (sym turns) ∙
          ap (λ z. rightward y z (tokens_right n a mid r)) (sym (p.text n l)) ∙ ap (rightward y (tokens_left n b us l)) (sym (right_kept n a b mid r e rest)));
    }

    pub lead_y : top ≡ Y g → PutsLeft a b (Y g) ts us → Leads beyond (record { ropes = a; lefts = ts; rights = ps; heading = Right x }) (record { ropes = b; lefts = us; rights = mid; heading = Right y })
    lead_y is p = record {
      sound = record { on_left = p.within; on_right = right_later a b e 0 mid rest };
      run = λ n even l r free.
          via (ap (rightward x (tokens_left n a ts l)) (top_right n a top (Y g) ps mid r was is))
          (rightward_x (g + n) x (tokens_left n a ts l) (tokens_right n a mid r))
          (ap (λ z. rightward z (xs_left (g + n) (tokens_left n a ts l)) (tokens_right n a mid r)) (sym (turned_add x g n) ∙ turned_even (turned x g) n even ∙ sym turns) ∙
          ap (λ z. rightward y z (tokens_right n a mid r)) (sym (p.text n l)) ∙ ap (rightward y (tokens_left n b us l)) (sym (right_kept n a b mid r e rest)));
    }

-- no rule, and one after another
pub lead_stay : (beyond : Beyond) (s : Spot) → BothRopesBelow s.ropes s.lefts s.rights → Leads beyond s s
lead_stay beyond s sound = record { sound = sound; run = λ n even l r free. stay machine _ }

pub lead_on : (beyond : Beyond) (s t u : Spot) → Leads beyond s t → Leads beyond t u → Leads beyond s u
lead_on beyond s t u p q = record { sound = q.sound; run = λ n even l r free. p.run n even l r free ⨾ q.run n even l r free }

pub no_token : (ts : List Token) {n : ℕ} → n ≡ length ts → true ≡ (n == 0) → ts ≡ []
no_token [] size e = refl
no_token (t ∷ ts) {n} size e = let z : n ≡ 0 = eqb→eq n 0 (subst T e tt) in absurd (omega arith)

pub lead_from : (beyond : Beyond) (a : List (List ℕ)) (heading start : Heading) (ts ps : List Token) (t : Spot) → heading ≡ start →
    Leads beyond (record { ropes = a; lefts = ts; rights = ps; heading = start }) t → Leads beyond (record { ropes = a; lefts = ts; rights = ps; heading = heading }) t
lead_from beyond a heading start ts ps t is p = subst (λ x. Leads beyond (record { ropes = a; lefts = ts; rights = ps; heading = x }) t) (sym is) p

-- a visit
pub visited : (beyond : Beyond) (x : Answer) (heading : Heading) (a b : List (List ℕ)) (ts us ps qs : List Token) → ps ≡ [] → qs ≡ [] → heading ≡ Right x →
    Leads beyond (record { ropes = a; lefts = ts; rights = ps; heading = Left }) (record { ropes = b; lefts = us; rights = qs; heading = heading }) → Visited beyond x a b ts us
unfolding tokens_right
visited beyond x heading a b ts us ps qs p q is leads = record {
  within = leads.sound.on_left;
  run = λ n even l free. record {
    run = λ r.
        via (ap (λ y. leftward (tokens_left n a ts l) (tokens_right n a y r)) (sym p))
        (leads.run n even l r free)
        (ap (λ y. zipper_to y (tokens_left n b us l) (tokens_right n b qs r)) is ∙ ap (λ y. rightward x (tokens_left n b us l) (tokens_right n b y r)) q);
  };
}
