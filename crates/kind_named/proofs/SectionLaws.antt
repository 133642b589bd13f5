-- Sections keep their meaning, the glider goes before some, and visits leave them to be put back.
use Rattle.std.proofs.Common.{◌≡◌, ℕ, ◌≤◌, List, [], ◌∷◌, ◌++◌, length, sym, ◌∙◌, ap, subst, refl, arith, zero, suc, ◌+◌, ◌-◌, ◌/◌, ◌%◌, ◌*◌, ◌<◌}
use Rattle.machine_text.specs.declared.table.Sym.{Sym}
use Rattle.kind_named.specs.inside.Tokens.{c_left, separator_left, rope_left, RopesAdded, token_left, tokens_left, RopeBelow, RopesBelow, SameLeft, xs_left, turned, AreOdd, groups_at, Visits, separator_answer, paid, PutsLeft, rope_times, glider_at, EndsWith}
use Rattle.kind_named.specs.declared.tokens.Token.{Token}
use Rattle.kind_named.specs.declared.tokens.Token.TheVariants as token
use Rattle.kind_named.specs.declared.jump.Section.{Section}
use Rattle.kind_named.specs.declared.jump.Section.TheVariants.{Group, Cut, Rope, Separator}
use Rattle.kind_named.specs.inside.Sections.{section_left, sections_left, SectionRopeBelow, SectionsRopesBelow, TakesOff, PutsSeparator, Rebuilds, Rebuilt, Glided}
use Rattle.kind_named.proofs.ArenaLaws.{extends_same, extends_on}
use Rattle.kind_named.proofs.Openings.{pushed, within_pushed, within_rest, below_taken, glider_free, within_append}
use Rattle.kind_named.specs.declared.visit.Answer.{Answer}
use Rattle.kind_named.specs.declared.visit.Answer.TheVariants.{A, C}
use Rattle.kind_named.proofs.Sweeps.{turned_add}
use Rattle.kind_named.proofs.Visits.{visits_x, visits_c, visits_rope, visits_separator, glide}
use Rattle.kind_named.specs.inside.Loop.{glider_tokens, glider_end, glider_word, glider_block, glider_visits, glider_fall, glider_gap, GliderGlides, VisitsOften}
use Rattle.kind_named.proofs.TokenLaws.{left_append}

-- The laws of sections.
pub sections_push : (ropes : List (List ℕ)) (ss : List Section) (s : Section) (l : List Sym) → sections_left ropes (ss ++ s ∷ []) l ≡ sections_left ropes ss (section_left ropes s l)
unfolding sections_left
sections_push ropes [] s l = refl
sections_push ropes (t ∷ ss) s l = ap (section_left ropes t) (sections_push ropes ss s l)

pub section_pushed : (ropes : List (List ℕ)) (s : Section) (ss us : List Section) (l : List Sym) → us ≡ ss ++ s ∷ [] → sections_left ropes us l ≡ sections_left ropes ss (section_left ropes s l)
section_pushed ropes s ss us l is = ap (λ x. sections_left ropes x l) is ∙ sections_push ropes ss s l

withinS_push : (n : ℕ) (ss : List Section) (s : Section) → SectionsRopesBelow n ss → SectionRopeBelow n s → SectionsRopesBelow n (ss ++ s ∷ [])
unfolding SectionsRopesBelow
withinS_push n [] s w b = (b, tt)
withinS_push n (t ∷ ss) s w b = (w.0, withinS_push n ss s w.1 b)

pub withinS_pushed : (n : ℕ) (s : Section) (ss us : List Section) → us ≡ ss ++ s ∷ [] → SectionsRopesBelow n ss → SectionRopeBelow n s → SectionsRopesBelow n us
withinS_pushed n s ss us is w b = subst (SectionsRopesBelow n) (sym is) (withinS_push n ss s w b)

withinS_first : (n : ℕ) (ss us : List Section) → SectionsRopesBelow n (ss ++ us) → SectionsRopesBelow n ss
unfolding SectionsRopesBelow
withinS_first n [] us w = tt
withinS_first n (t ∷ ss) us w = (w.0, withinS_first n ss us w.1)

withinS_last : (n : ℕ) (ss : List Section) (s : Section) → SectionsRopesBelow n (ss ++ s ∷ []) → SectionRopeBelow n s
unfolding SectionsRopesBelow
withinS_last n [] s w = w.0
withinS_last n (t ∷ ss) s w = withinS_last n ss s w.1

pub withinS_rest : (n : ℕ) (s : Section) (ss us : List Section) → ss ≡ us ++ s ∷ [] → SectionsRopesBelow n ss → SectionsRopesBelow n us
withinS_rest n s ss us is w = withinS_first n us (s ∷ []) (subst (SectionsRopesBelow n) is w)

pub belowS_taken : (n : ℕ) (s : Section) (ss us : List Section) → ss ≡ us ++ s ∷ [] → SectionsRopesBelow n ss → SectionRopeBelow n s
belowS_taken n s ss us is w = withinS_last n us s (subst (SectionsRopesBelow n) is w)

pub belowS_more : (n k : ℕ) (s : Section) → n ≤ k → SectionRopeBelow n s → SectionRopeBelow k s
belowS_more n k (Group g) less b = tt
belowS_more n k Cut less b = tt
belowS_more n k (Rope i) less b = omega arith
belowS_more n k (Separator d r) less b = tt

pub withinS_more : (n k : ℕ) (ss : List Section) → n ≤ k → SectionsRopesBelow n ss → SectionsRopesBelow k ss
unfolding SectionsRopesBelow
withinS_more n k [] less w = tt
withinS_more n k (s ∷ ss) less w = (belowS_more n k s less w.0, withinS_more n k ss less w.1)

word_s_kept : (old new : List (List ℕ)) (s : Section) (l : List Sym) → RopesAdded old new → SectionRopeBelow (length old) s → section_left new s l ≡ section_left old s l
word_s_kept old new (Group g) l e w = refl
word_s_kept old new Cut l e w = refl
word_s_kept old new (Rope i) l e w = ap (λ gs. rope_left gs l) (e.keeps i w)
word_s_kept old new (Separator d r) l e w = refl

pub section_kept : (old new : List (List ℕ)) (s : Section) (l : List Sym) → RopesAdded old new → SectionRopeBelow (length old) s → section_left new s l ≡ section_left old s l
section_kept = word_s_kept

pub sections_kept : (old new : List (List ℕ)) (ss : List Section) (l : List Sym) → RopesAdded old new → SectionsRopesBelow (length old) ss → sections_left new ss l ≡ sections_left old ss l
unfolding sections_left SectionsRopesBelow
sections_kept old new [] l e w = refl
sections_kept old new (s ∷ ss) l e w = word_s_kept old new s (sections_left new ss l) e w.0 ∙ ap (section_left old s) (sections_kept old new ss l e w.1)

-- a separator put back
pub separator_three : (d : ℕ) (a : List (List ℕ)) (ts one us : List Token) → RopesBelow (length a) ts → d ≡ 3 → one ≡ ts ++ token.Cut ∷ [] → us ≡ one ++ token.Cut ∷ [] → PutsSeparator d a ts us
separator_three d a ts one us w is p q = record {
  within = within_pushed (length a) token.Cut one us q (within_pushed (length a) token.Cut ts one p w tt) tt;
  text = λ n l. pushed n a token.Cut one us l q ∙ ap (λ x. c_left x) (pushed n a token.Cut ts one l p) ∙ ap (λ i. separator_left i (tokens_left n a ts l)) (sym is);
}

pub separator_mark : (d : ℕ) (a : List (List ℕ)) (ts us : List Token) → RopesBelow (length a) ts → us ≡ ts ++ token.Separator d ∷ [] → PutsSeparator d a ts us
separator_mark d a ts us w p = record { within = within_pushed (length a) (token.Separator d) ts us p w tt; text = λ n l. pushed n a (token.Separator d) ts us l p }

-- a word was put back
pub gathers_back : (start : List Sym → List Sym) (a b : List (List ℕ)) (ts mid us : List Token) (ss : List Section) → RopesAdded a b → SectionsRopesBelow (length a) ss →
    RopesBelow (length b) us → ((n : ℕ) (l : List Sym) → tokens_left n b us l ≡ start (tokens_left n a ts l)) → TakesOff start a b ts us ss ss
gathers_back start a b ts mid us ss e v w is = record {
  within = w;
  taken_within = let g = e.grows in withinS_more (length a) (length b) ss (omega arith) v;
  text = λ n l. ap (sections_left b ss) (is n l) ∙ sections_kept a b ss (start (tokens_left n a ts l)) e v;
}

-- a section was taken
pub gathers_taken : (start : List Sym → List Sym) (a b : List (List ℕ)) (ts us : List Token) (s : Section) (ss vs : List Section) → RopesAdded a b → SectionsRopesBelow (length a) ss →
    RopesBelow (length b) us → SectionRopeBelow (length b) s → vs ≡ ss ++ s ∷ [] → ((n : ℕ) (l : List Sym) → section_left b s (tokens_left n b us l) ≡ start (tokens_left n a ts l)) → TakesOff start a b ts us ss vs
gathers_taken start a b ts us s ss vs e v w below is same = record {
  within = w;
  taken_within = withinS_pushed (length b) s ss vs is (let g = e.grows in withinS_more (length a) (length b) ss (omega arith) v) below;
  text = λ n l. section_pushed b s ss vs (tokens_left n b us l) is ∙ ap (sections_left b ss) (same n l) ∙ sections_kept a b ss (start (tokens_left n a ts l)) e v;
}

-- a token was taken off first
pub gathers_first : (f g : List Sym → List Sym) (a b : List (List ℕ)) (t : Token) (ts mid us : List Token) (ss vs : List Section) → ts ≡ mid ++ t ∷ [] →
    ((n : ℕ) (l : List Sym) → g (token_left n a t l) ≡ f l) → TakesOff f a b mid us ss vs → TakesOff g a b ts us ss vs
gathers_first f g a b t ts mid us ss vs was same p = record {
  within = p.within;
  taken_within = p.taken_within;
  text = λ n l. p.text n l ∙ ap (sections_left a ss) (sym (same n (tokens_left n a mid l)) ∙ ap g (sym (pushed n a t mid ts l was)));
}

-- the same, in the forms in which they come
pub separator_back : (d : ℕ) (a b : List (List ℕ)) (ts us leftward vs : List Token) (ss : List Section) → RopesAdded a b → SectionsRopesBelow (length a) ss → SameLeft a b ts us → us ≡ leftward →
    PutsSeparator d b leftward vs → TakesOff (λ l. separator_left d l) a b ts vs ss ss
separator_back d a b ts us leftward vs ss e v s is p =
    gathers_back (λ l. separator_left d l) a b ts us vs ss e v p.within (λ n l. p.text n l ∙ ap (λ x. separator_left d (tokens_left n b x l)) (sym is) ∙ ap (separator_left d) (s.text n l))

pub separator_taken : (d r : ℕ) (a b : List (List ℕ)) (top : Token) (ts us mid : List Token) (ss vs : List Section) → RopesAdded a b → SectionsRopesBelow (length a) ss → SameLeft a b ts us →
    us ≡ mid ++ top ∷ [] → top ≡ token.X r → vs ≡ ss ++ Separator d r ∷ [] → TakesOff (λ l. separator_left d l) a b ts mid ss vs
separator_taken d r a b top ts us mid ss vs e v s was is taken =
    gathers_taken (λ l. separator_left d l) a b ts mid (Separator d r) ss vs e v (within_rest (length b) top us mid was s.within) tt taken
    (λ n l. ap (separator_left d) (ap (λ x. token_left n b x (tokens_left n b mid l)) (sym is) ∙ sym (pushed n b top mid us l was) ∙ s.text n l))

pub token_back : (start : List Sym → List Sym) (a : List (List ℕ)) (t : Token) (ts us : List Token) (ss : List Section) → RopesBelow (length a) ts → SectionsRopesBelow (length a) ss → RopeBelow (length a) t →
    us ≡ ts ++ t ∷ [] → ((n : ℕ) (l : List Sym) → token_left n a t l ≡ start l) → TakesOff start a a ts us ss ss
token_back start a t ts us ss w v below is same =
    gathers_back start a a ts ts us ss (extends_same a) v (within_pushed (length a) t ts us is w below) (λ n l. pushed n a t ts us l is ∙ same n (tokens_left n a ts l))

pub section_taken : (start : List Sym → List Sym) (a : List (List ℕ)) (s : Section) (ts us : List Token) (ss vs : List Section) → RopesBelow (length a) ts → SectionsRopesBelow (length a) ss →
    SectionRopeBelow (length a) s → ts ≡ us → vs ≡ ss ++ s ∷ [] → ((l : List Sym) → section_left a s l ≡ start l) → TakesOff start a a ts us ss vs
section_taken start a s ts us ss vs w v below is taken same =
    gathers_taken start a a ts us s ss vs (extends_same a) v (subst (RopesBelow (length a)) is w) below taken (λ n l. same (tokens_left n a us l) ∙ ap (λ x. start (tokens_left n a x l)) (sym is))

pub token_taken : (a : List (List ℕ)) (s : Section) (top t : Token) (ts us : List Token) (ss vs : List Section) → RopesBelow (length a) ts → SectionsRopesBelow (length a) ss →
    SectionRopeBelow (length a) s → ts ≡ us ++ top ∷ [] → top ≡ t → vs ≡ ss ++ s ∷ [] → ((n : ℕ) (l : List Sym) → section_left a s l ≡ token_left n a t l) → TakesOff (λ l. l) a a ts us ss vs
token_taken a s top t ts us ss vs w v below was is taken same =
    gathers_taken (λ l. l) a a ts us s ss vs (extends_same a) v (within_rest (length a) top ts us was w) below taken
    (λ n l. same n (tokens_left n a us l) ∙ ap (λ x. token_left n a x (tokens_left n a us l)) (sym is) ∙ sym (pushed n a top us ts l was))

pub gathers_next : (f g : List Sym → List Sym) (a b : List (List ℕ)) (top t : Token) (ts mid us : List Token) (ss vs : List Section) → ts ≡ mid ++ top ∷ [] → top ≡ t →
    ((n : ℕ) (l : List Sym) → g (token_left n a t l) ≡ f l) → TakesOff f a b mid us ss vs → TakesOff g a b ts us ss vs
gathers_next f g a b top t ts mid us ss vs was is same p = gathers_first f g a b t ts mid us ss vs (was ∙ ap (λ x. mid ++ x ∷ []) is) same p

pub below_as : (n : ℕ) (top t : Token) (ts us : List Token) → ts ≡ us ++ top ∷ [] → top ≡ t → RopesBelow n ts → RopeBelow n t
below_as n top t ts us was is w = below_taken n t ts us (was ∙ ap (λ x. us ++ x ∷ []) is) w

pub gathers_on : (a b c : List (List ℕ)) (ts us vs : List Token) (ss us' vs' : List Section) → TakesOff (λ l. l) a b ts us ss us' → TakesOff (λ l. l) b c us vs us' vs' → TakesOff (λ l. l) a c ts vs ss vs'
gathers_on a b c ts us vs ss us' vs' p q = record { within = q.within; taken_within = q.taken_within; text = λ n l. q.text n l ∙ p.text n l }

pub gathers_opened : (a b c : List (List ℕ)) (ts us ws : List Token) (ss vs : List Section) → TakesOff (λ l. l) a b ts us ss vs → RopesAdded b c → SameLeft b c us ws → TakesOff (λ l. l) a c ts ws ss vs
gathers_opened a b c ts us ws ss vs p e s = record {
  within = s.within;
  taken_within = let g = e.grows in withinS_more (length b) (length c) vs (omega arith) p.taken_within;
  text = λ n l. sections_kept b c vs (tokens_left n c ws l) e p.taken_within ∙ ap (sections_left b vs) (s.text n l) ∙ p.text n l;
}

pub withinS_none : (n : ℕ) (ss : List Section) → ss ≡ [] → SectionsRopesBelow n ss
unfolding SectionsRopesBelow
withinS_none n ss is = subst (SectionsRopesBelow n) (sym is) tt

-- Sections are put back as visits leave them.

-- where there is no visit, any answer will do
pub visits_as : {a b : Answer} (n : ℕ) (l k : List Sym) → (1 ≤ n → a ≡ b) → Visits a n l k → Visits b n l k
visits_as zero l k same w = record { chain = w.chain }
visits_as {a} {b} (suc n) l k same w = subst (λ x. Visits x (suc n) l k) (same (omega arith)) w

module _ (a b : List (List ℕ)) (s : Section) (x : Answer) (n : ℕ) (ts us : List Token) where
  pub rebuild_group : (g : ℕ) (y : Answer) → s ≡ Group g → y ≡ turned x g → PutsLeft a b (token.X g) ts us → Rebuilds s x n y n a b ts us
  rebuild_group g y is turns p = record {
    within = p.within;
    run = λ i l k w.
        subst (λ z. Visits y n (section_left a z k) (tokens_left i b us l)) (sym is) (subst (λ z. Visits y n (xs_left g k) z) (sym (p.text i l)) (subst (λ z. Visits z n (xs_left g k) (xs_left g (tokens_left i a ts l))) (sym turns) (visits_x g w)));
  }

  pub rebuild_cut : s ≡ Cut → (1 ≤ n → x ≡ A) → PutsLeft a b token.Cut ts us → Rebuilds s x n C n a b ts us
  rebuild_cut is suits p = record {
    within = p.within;
    run = λ i l k w. subst (λ z. Visits C n (section_left a z k) (tokens_left i b us l)) (sym is) (subst (λ z. Visits C n (c_left k) z) (sym (p.text i l)) (visits_c (visits_as n k (tokens_left i a ts l) suits w)));
  }

  pub rebuild_rope : (j : ℕ) → s ≡ Rope j → (1 ≤ n → x ≡ A) → AreOdd (groups_at a j) → PutsLeft a b (token.Rope j) ts us → Rebuilds s x n A n a b ts us
  rebuild_rope j is suits odd p = record {
    within = p.within;
    run = λ i l k w.
        subst (λ z. Visits A n (section_left a z k) (tokens_left i b us l)) (sym is)
        (subst (λ z. Visits A n (rope_left (groups_at a j) k) z) (sym (p.text i l)) (visits_rope (groups_at a j) odd (visits_as n k (tokens_left i a ts l) suits w)));
  }

-- a separator
pub rebuild_separator : (a b c : List (List ℕ)) (d r v n e r' : ℕ) (x y z : Answer) (own : Answer) (ts one two us : List Token) → RopesAdded a b → RopesAdded b c →
    d ≤ 3 → n ≡ (d + v) / 4 → e ≡ (d + v) % 4 → paid d v ≤ r → r' ≡ r - paid d v → y ≡ turned x r → z ≡ turned y ((d + 1) / 2) → (1 ≤ n → z ≡ C) → own ≡ separator_answer d →
    PutsLeft a b (token.X r') ts one → PutsSeparator e b one two → PutsLeft b c (token.X v) two us → Rebuilds (Separator d r) x n own v a c ts us
rebuild_separator a b c d r v n e r' x y z own ts one two us f g small inside digit pays less turns asked suits is p q s = record {
  within = s.within;
  run = λ i l k w.
      let asks : 1 ≤ (d + v) / 4 → turned x (r + (d + 1) / 2) ≡ C =
      λ some. sym (turned_add x r ((d + 1) / 2)) ∙ ap (λ t. turned t ((d + 1) / 2)) (sym turns) ∙ sym asked ∙ suits (subst (λ j. 1 ≤ j) (sym inside) some) in
      let all = visits_separator d v r small pays asks (subst (λ j. Visits x j k (tokens_left i a ts l)) inside w) in
      let text : tokens_left i c us l ≡ xs_left v (separator_left ((d + v) % 4) (xs_left (r - paid d v) (tokens_left i a ts l))) =
      s.text i l ∙ ap (xs_left v) (q.text i l ∙ ap (λ j. separator_left j (tokens_left i b one l)) digit ∙ ap (separator_left ((d + v) % 4)) (p.text i l ∙ ap (λ j. xs_left j (tokens_left i a ts l)) less)) in
      subst (λ t. Visits own v (separator_left d (xs_left r k)) t) (sym text) (subst (λ t. Visits t v (separator_left d (xs_left r k)) (xs_left v (separator_left ((d + v) % 4) (xs_left (r - paid d v) (tokens_left i a ts l))))) (sym is) all);
}

pub rebuilt_none : (a : Answer) (n : ℕ) (old : List (List ℕ)) (ts : List Token) (ss : List Section) → RopesBelow (length old) ts → SectionsRopesBelow (length old) ss → Rebuilt a n a n old old ts ts ss ss
rebuilt_none a n old ts ss w v = record { extends = extends_same old; within = w; rest_within = v; run = λ b l k visits. (k, refl, visits) }

pub below_at : (n : ℕ) (s : Section) (old new : List (List ℕ)) (rest us : List Section) → RopesAdded old new → rest ≡ us ++ s ∷ [] → SectionsRopesBelow (length old) rest → SectionRopeBelow (length new) s
below_at n s old new rest us e was v = let g = e.grows in belowS_more (length old) (length new) s (omega arith) (belowS_taken (length old) s rest us was v)

pub rebuilt_more : (a x y : Answer) (n i v : ℕ) (old now new : List (List ℕ)) (ts us vs : List Token) (ss rest ws : List Section) (s : Section) → Rebuilt a n x i old now ts us ss rest →
    rest ≡ ws ++ s ∷ [] → RopesAdded now new → Rebuilds s x i y v now new us vs → Rebuilt a n y v old new ts vs ss ws
rebuilt_more a x y n i v old now new ts us vs ss rest ws s r was f p = record {
  extends = extends_on old now new r.extends f;
  within = p.within;
  rest_within = withinS_rest (length old) s rest ws was r.rest_within;
  run = λ b l k visits.
      let (j, same, w) = r.run b l k visits in
      let below = belowS_taken (length old) s rest ws was r.rest_within in (
        section_left old s j,
        same ∙ section_pushed old s ws rest j was,
        subst (λ z. Visits y v z (tokens_left b new vs l)) (section_kept old now s j r.extends below) (p.run b l j w),
      );
}

pub rebuilt_all : (a x : Answer) (n i : ℕ) (old new : List (List ℕ)) (ts us : List Token) (ss rest ws : List Section) → Rebuilt a n x i old new ts us ss rest → rest ≡ ws ++ [] → length rest ≡ 0 →
    (1 ≤ i → x ≡ A) → (b : ℕ) (l k : List Sym) → Visits a n k (tokens_left b old ts l) → Visits A i (sections_left old ss k) (tokens_left b new us l)
unfolding sections_left
rebuilt_all a x n i old new ts us ss [] ws r was size suits = λ b l k visits.
    let (j, same, w) = r.run b l k visits in
    subst (λ z. Visits A i z (tokens_left b new us l)) (sym same) (visits_as i j (tokens_left b new us l) suits w)
rebuilt_all a x n i old new ts us ss (s ∷ rest) ws r was size suits = absurd (omega arith)

-- The glider before some sections, for so many periods.

-- the glider's tokens mean the same everywhere
pub glider_text : (b : ℕ) (ropes : List (List ℕ)) (l : List Sym) → tokens_left b ropes glider_tokens l ≡ glider_word l
unfolding tokens_left glider_tokens
glider_text b ropes l = refl

-- the glider's tokens, a group, cc and the gap, as they are put
module _ (b : ℕ) (ropes : List (List ℕ)) (group : Token) (ts : List Token) (is : ts ≡ glider_tokens ++ group ∷ token.Cut ∷ token.Cut ∷ token.X glider_gap ∷ []) where
  pub glider_put : (l : List Sym) → tokens_left b ropes ts l ≡ xs_left glider_gap (separator_left 3 (token_left b ropes group (glider_word l)))
  unfolding tokens_left
  glider_put l =
      ap (λ x. tokens_left b ropes x l) is ∙ left_append b ropes glider_tokens (group ∷ token.Cut ∷ token.Cut ∷ token.X glider_gap ∷ []) l ∙
      ap (λ x. xs_left glider_gap (separator_left 3 (token_left b ropes group x))) (glider_text b ropes l)

pub glider_within : (n : ℕ) (group : Token) (ts : List Token) → RopeBelow n group → ts ≡ glider_tokens ++ group ∷ token.Cut ∷ token.Cut ∷ token.X glider_gap ∷ [] → RopesBelow n ts
unfolding RopesBelow
glider_within n group ts below is = subst (RopesBelow n) (sym is) (within_append n glider_tokens (group ∷ token.Cut ∷ token.Cut ∷ token.X glider_gap ∷ []) (glider_free n) (below, (tt, (tt, (tt, tt)))))

module _ (glides : GliderGlides) (r0 r1 r2 : List (List ℕ)) (e : RopesAdded r0 r1) (f : RopesAdded r1 r2) (k group less rest visits n : ℕ) (row : ℕ) (before mid : List Token)
    (tail put six : List Token) (taken front left_over : List Section) where
  pub glided : SectionsRopesBelow (length r0) taken → taken ≡ front ++ Separator 3 group ∷ [] → front ≡ left_over ++ Group glider_gap ∷ [] → less ≡ k * glider_fall → less ≤ group → rest ≡ group - less → rest % 2 ≡ 0 →
      visits ≡ k * glider_visits → tail ≡ glider_tokens → EndsWith tail r0 r1 before mid → (row < length r2) × (groups_at r2 row ≡ rope_times k glider_block) →
      put ≡ glider_tokens ++ token.X rest ∷ token.Cut ∷ token.Cut ∷ token.X glider_gap ∷ [] → six ≡ put ++ token.Rope row ∷ [] →
      Glided visits r0 r2 before six taken left_over
  glided v was wasf falls fits is even all tok ends rows placed last =
      let size = length r2 in
      let front_within : SectionsRopesBelow (length r0) front = withinS_rest (length r0) (Separator 3 group) taken front was v in
      let over_within : SectionsRopesBelow (length r0) left_over = withinS_rest (length r0) (Group glider_gap) front left_over wasf front_within in
      let g = extends_on r0 r1 r2 e f in
      record {
        within = within_pushed size (token.Rope row) put six last (glider_within size (token.X rest) put tt placed) rows.0;
        rest_within = let h = g.grows in withinS_more (length r0) size left_over (omega arith) over_within;
        run = λ b ev l.
            let far = tokens_left b r1 mid l in
            let (u, run) = glide glider_word glider_gap glider_visits glider_fall glider_block glides k rest even far in
            let amount : k * glider_fall + rest ≡ group = omega arith in
            let text : tokens_left b r0 before l ≡ glider_word far = ends.text b l ∙ ap (λ x. tokens_left b r1 x far) tok ∙ glider_text b r1 far in
            let whole : sections_left r2 left_over (glider_at glider_word glider_gap (k * glider_fall + rest) far) ≡ sections_left r0 taken (tokens_left b r0 before l) =
            sections_kept r0 r2 left_over (glider_at glider_word glider_gap (k * glider_fall + rest) far) g over_within ∙
            ap (λ i. sections_left r0 left_over (xs_left glider_gap (separator_left 3 (xs_left i (glider_word far))))) amount ∙
            ap (λ x. sections_left r0 left_over (xs_left glider_gap (separator_left 3 (xs_left group x)))) (sym text) ∙
            sym (section_pushed r0 (Group glider_gap) left_over front (separator_left 3 (xs_left group (tokens_left b r0 before l))) wasf) ∙
            sym (section_pushed r0 (Separator 3 group) front taken (tokens_left b r0 before l) was) in
            let after : tokens_left b r2 six u ≡ rope_left (rope_times k glider_block) (glider_at glider_word glider_gap rest u) =
            pushed b r2 (token.Rope row) put six u last ∙ ap (λ gs. rope_left gs (tokens_left b r2 put u)) rows.1 ∙
            ap (rope_left (rope_times k glider_block)) (glider_put b r2 (token.X rest) put placed u) in (
              glider_at glider_word glider_gap (k * glider_fall + rest) far,
              u,
              whole,
              subst (λ t. Visits A t (glider_at glider_word glider_gap (k * glider_fall + rest) far) (tokens_left b r2 six u)) (sym all)
                  (subst (λ x. Visits A (k * glider_visits) (glider_at glider_word glider_gap (k * glider_fall + rest) far) x) (sym after) run),
            );
      }

-- what the check of a period sees: from its tokens, so many visits lead to the same tokens and the block behind them
module _ (r0 r1 r2 r3 : List (List ℕ)) (put over left_of rest : List Token) (ends again : List Token) where
  pub glides_seen : put ≡ glider_tokens ++ token.Y glider_fall ∷ token.Cut ∷ token.Cut ∷ token.X glider_gap ∷ [] → VisitsOften glider_visits r0 r1 put over →
      ends ≡ glider_end → EndsWith ends r1 r2 over left_of → again ≡ glider_tokens → EndsWith again r2 r3 left_of rest → GliderGlides
  unfolding tokens_left glider_end glider_block rope_left
  glides_seen placed v pe e pa a =
      record {
        even = refl;
        odd = (refl, (refl, (refl, (refl, (refl, tt)))));
        run = λ b even l.
            let begun : tokens_left b r0 put l ≡ glider_at glider_word glider_gap (glider_fall + b) l = glider_put b r0 (token.Y glider_fall) put placed l in
            let u = tokens_left b r3 rest l in
            let ended : tokens_left b r1 over l ≡ rope_left glider_block (glider_at glider_word glider_gap b u) =
            e.text b l ∙ ap (λ x. tokens_left b r2 x (tokens_left b r2 left_of l)) pe ∙
            ap (tokens_left b r2 glider_end) (a.text b l ∙ ap (λ x. tokens_left b r3 x u) pa ∙ glider_text b r3 u) ∙
            ap (λ i. rope_left glider_block (glider_at glider_word glider_gap i u)) (let z : 0 + b ≡ b = omega arith in z) in
            (u, subst (λ x. Visits A glider_visits x (rope_left glider_block (glider_at glider_word glider_gap b u))) begun (subst (λ x. Visits A glider_visits (tokens_left b r0 put l) x) ended (v.run b even l)));
      }
