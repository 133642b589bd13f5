-- What stands in front of a word, a separator or the glider is visited through it.
use Rattle.std.proofs.Common.{◌≡◌, ℕ, zero, suc, ◌+◌, ◌≤◌, List, [], sym, ap, subst, refl, arith, ◌-◌, ◌*◌, ◌/◌, ◌%◌, ◌∙◌, ◌++◌, append_assoc}
use Rattle.std.proofs.lemmas.List.{append-nil}
use Rattle.machine_text.specs.declared.table.Sym.{Sym}
use Rattle.law_machines.specs.Terms.{Comes, Goes}
use Rattle.law_machines.proofs.RuleLaws.{same, weakened, ◌⨾◌, ◌⨾⁺◌, ◌⁺⨾◌}
use Rattle.kind_named.specs.inside.Tokens.{machine, turned, leftward, xs_left, c_left, separator_left, xs_right, c_right, rope_left, rope_right, AreOdd, AnswersBy, VisitChain, Visits, other_answer, separator_answer, paid, rope_times, glider_at, Glides}
use Rattle.kind_named.specs.declared.visit.Answer.{Answer}
use Rattle.kind_named.specs.declared.visit.Answer.TheVariants.{A, C}
use Rattle.kind_named.proofs.Sweeps.{rule2, rule7, end_A, leftward_x, rightward_x, leftward_rope, rightward_rope, leftward_s0, leftward_s1, leftward_s2, rightward_cc, turned_first, turned_two, xs_left_add, rope_left_append}

-- The calculus of visits: what stands in front of a word is visited through it.

-- one visit, through a word
pub through_x : (g : ℕ) {a : Answer} {l k : List Sym} → AnswersBy a l k → AnswersBy (turned a g) (xs_left g l) (xs_left g k)
through_x g {a} {l} {k} once = record { run = λ r. leftward_x g l r ⨾ once.run (xs_right g r) ⨾ rightward_x g a k r }

pub through_c : {l k : List Sym} → AnswersBy A l k → AnswersBy C (c_left l) (c_left k)
through_c {l} {k} once = record { run = λ r. rule2 l r ⨾ once.run (c_right r) ⨾ rule7 k r }

pub through_rope : (gs : List ℕ) → AreOdd gs → {l k : List Sym} → AnswersBy A l k → AnswersBy A (rope_left gs l) (rope_left gs k)
through_rope gs odd {l} {k} once = record { run = λ r. leftward_rope gs l r ⨾ once.run (rope_right gs r) ⨾ rightward_rope gs odd k r }

-- one visit of a separator
pub visit_s0 : (n : ℕ) (l : List Sym) → AnswersBy A (separator_left 0 (xs_left (suc n) l)) (xs_left 1 (separator_left 1 (xs_left n l)))
visit_s0 n l = record { run = λ r. leftward_s0 n l r }

pub visit_s1 : (l : List Sym) → AnswersBy C (separator_left 1 l) (xs_left 1 (separator_left 2 l))
visit_s1 l = record { run = λ r. leftward_s1 l r }

pub visit_s2 : (n : ℕ) (l : List Sym) → AnswersBy A (separator_left 2 (xs_left (suc n) l)) (xs_left 1 (separator_left 3 (xs_left n l)))
visit_s2 n l = record { run = λ r. leftward_s2 n l r }

pub visit_s3 : {l k : List Sym} → AnswersBy C l k → AnswersBy C (separator_left 3 l) (xs_left 1 (separator_left 0 k))
visit_s3 {l} {k} once = record { run = λ r. rule2 (c_left l) r ⨾ rule2 l (c_right r) ⨾ once.run (c_right (c_right r)) ⨾ rightward_cc k r }

-- many
module _ (a b : Answer) (f : List Sym → List Sym) (each : (l k : List Sym) → AnswersBy a l k → AnswersBy b (f l) (f k)) where
  map_chain : (n : ℕ) (l k : List Sym) → VisitChain a n l k → VisitChain b n (f l) (f k)
  map_chain zero l k c = ap f c
  map_chain (suc n) l k c = (f c.0, each l c.0 c.1, map_chain n c.0 k c.2)

  pub map_visits : {n : ℕ} {l k : List Sym} → Visits a n l k → Visits b n (f l) (f k)
  map_visits {n} {l} {k} v = record { chain = map_chain n l k v.chain }

pub visits_x : (g : ℕ) {a : Answer} {n : ℕ} {l k : List Sym} → Visits a n l k → Visits (turned a g) n (xs_left g l) (xs_left g k)
visits_x g {a} = map_visits a (turned a g) (xs_left g) (λ l k. through_x g)

pub visits_c : {n : ℕ} {l k : List Sym} → Visits A n l k → Visits C n (c_left l) (c_left k)
visits_c = map_visits A C (λ l. c_left l) (λ l k. through_c)

pub visits_rope : (gs : List ℕ) → AreOdd gs → {n : ℕ} {l k : List Sym} → Visits A n l k → Visits A n (rope_left gs l) (rope_left gs k)
visits_rope gs odd = map_visits A A (rope_left gs) (λ l k. through_rope gs odd)

pub no_visit : (a : Answer) (l : List Sym) → Visits a 0 l l
no_visit a l = record { chain = refl }

pub one_visit : {a : Answer} {l k : List Sym} → AnswersBy a l k → Visits a 1 l k
one_visit {a} {l} {k} once = record { chain = (k, once, refl) }

join_chain : (a : Answer) (n i : ℕ) (l k j : List Sym) → VisitChain a n l k → VisitChain a i k j → VisitChain a (n + i) l j
join_chain a zero i l k j c d =
    let e : i ≡ 0 + i = omega arith in
    subst (λ x. VisitChain a x l j) e (subst (λ x. VisitChain a i x j) (sym c) d)
join_chain a (suc n) i l k j c d =
    let e : suc (n + i) ≡ suc n + i = omega arith in
    subst (λ x. VisitChain a x l j) e (c.0, c.1, join_chain a n i c.0 k j c.2 d)

pub visits_join : {a : Answer} {n i : ℕ} {l k j : List Sym} → Visits a n l k → Visits a i k j → Visits a (n + i) l j
visits_join {a} {n} {i} {l} {k} {j} v w = record { chain = join_chain a n i l k j v.chain w.chain }

-- with nothing on the right: none or more, and at least one
ended : (n : ℕ) (l k : List Sym) → VisitChain A n l k → Comes machine (leftward l []) (leftward k [])
ended zero l k c = same machine (ap (λ x. leftward x []) c)
ended (suc n) l k c = c.1.run [] ⨾ weakened (end_A c.0) ⨾ ended n c.0 k c.2

goes_on : (n : ℕ) (l k : List Sym) → 1 ≤ n → VisitChain A n l k → Goes machine (leftward l []) (leftward k [])
goes_on zero l k some c = absurd (omega arith)
goes_on (suc n) l k some c = c.1.run [] ⨾⁺ end_A c.0 ⁺⨾ ended n c.0 k c.2

pub visits_end : {n : ℕ} {l k : List Sym} → Visits A n l k → Comes machine (leftward l []) (leftward k [])
visits_end {n} {l} {k} v = ended n l k v.chain

pub visits_go : {n : ℕ} {l k : List Sym} → 1 ≤ n → Visits A n l k → Goes machine (leftward l []) (leftward k [])
visits_go {n} {l} {k} some v = goes_on n l k some v.chain

-- v visits of a separator are a change of it, and every fourth of them is a visit of what stands in front of it.

-- one visit where x^i stands behind the separator
behind : (i : ℕ) (a : Answer) (l k : List Sym) → AnswersBy a l (xs_left 1 k) → AnswersBy (turned a i) (xs_left i l) (xs_left (suc i) k)
behind i a l k once = subst (λ j. AnswersBy (turned a i) (xs_left i l) j) (xs_left_add i 1 k ∙ ap (λ j. xs_left j k) (let p : i + 1 ≡ suc i = omega arith in p)) (through_x i once)

step : (v i : ℕ) (a : Answer) (l k j : List Sym) → AnswersBy a l (xs_left 1 k) → VisitChain (turned (other_answer a) (suc i)) v (xs_left (suc i) k) j → VisitChain (turned a i) (suc v) (xs_left i l) j
step v i a l k j once more = (xs_left (suc i) k, behind i a l k once, subst (λ b. VisitChain b v (xs_left (suc i) k) j) (turned_first (other_answer a) i ∙ ap (λ b. turned b i) (other_twice a)) more)
  where
    other_twice : (b : Answer) → other_answer (other_answer b) ≡ b
    other_twice A = refl
    other_twice C = refl

-- v visits of the digit d, which becomes e, while F is visited n times; of r words x in front of the digit p are paid, and s are left;
-- behind it stand i words x, and then t
chain : (v d e n p r s i t : ℕ) (b : Answer) (F K : List Sym) → d ≤ 3 → e ≤ 3 → d + v ≡ 4 * n + e → p + (d + 1) / 2 ≡ 2 * n + (e + 1) / 2 → r ≡ p + s →
    t ≡ i + v → (1 ≤ n → turned b (r + (d + 1) / 2) ≡ C) → VisitChain b n F K → VisitChain (turned (separator_answer d) i) v (xs_left i (separator_left d (xs_left r F))) (xs_left t (separator_left e (xs_left s K)))
chain zero d e zero p r s i t b F K small low visits pays splits grows asks c =
    let a : i ≡ t = omega arith in
    let f : d ≡ e = omega arith in
    let g : r ≡ s = omega arith in
    ap (λ j. xs_left j (separator_left d (xs_left r F))) a ∙ ap (λ j. xs_left t (separator_left j (xs_left r F))) f ∙ ap (λ j. xs_left t (separator_left e (xs_left j F))) g ∙ ap (λ j. xs_left t (separator_left e (xs_left s j))) c
chain zero d e (suc n) p r s i t b F K small low visits pays splits grows asks c = absurd (omega arith)
chain (suc v) zero e n zero r s i t b F K small low visits pays splits grows asks c = absurd (omega arith)
chain (suc v) zero e n (suc p) zero s i t b F K small low visits pays splits grows asks c = absurd (omega arith)
chain (suc v) zero e n (suc p) (suc r) s i t b F K small low visits pays splits grows asks c =
    step v i A (separator_left 0 (xs_left (suc r) F)) (separator_left 1 (xs_left r F)) (xs_left t (separator_left e (xs_left s K))) (visit_s0 r F)
    (chain v 1 e n p r s (suc i) t b F K (omega arith) low (omega arith) (omega arith) (omega arith) (omega arith)
    (λ q. ap (turned b) (let h : r + (1 + 1) / 2 ≡ suc r + (0 + 1) / 2 = omega arith in h) ∙ asks q) c)
chain (suc v) (suc zero) e n p r s i t b F K small low visits pays splits grows asks c =
    step v i C (separator_left 1 (xs_left r F)) (separator_left 2 (xs_left r F)) (xs_left t (separator_left e (xs_left s K))) (visit_s1 (xs_left r F))
    (chain v 2 e n p r s (suc i) t b F K (omega arith) low (omega arith) (omega arith) (omega arith) (omega arith) asks c)
chain (suc v) (suc (suc zero)) e n zero r s i t b F K small low visits pays splits grows asks c = absurd (omega arith)
chain (suc v) (suc (suc zero)) e n (suc p) zero s i t b F K small low visits pays splits grows asks c = absurd (omega arith)
chain (suc v) (suc (suc zero)) e n (suc p) (suc r) s i t b F K small low visits pays splits grows asks c =
    step v i A (separator_left 2 (xs_left (suc r) F)) (separator_left 3 (xs_left r F)) (xs_left t (separator_left e (xs_left s K))) (visit_s2 r F)
    (chain v 3 e n p r s (suc i) t b F K (omega arith) low (omega arith) (omega arith) (omega arith) (omega arith)
    (λ q. ap (turned b) (let h : r + (3 + 1) / 2 ≡ suc r + (2 + 1) / 2 = omega arith in h) ∙ asks q) c)
chain (suc v) (suc (suc (suc zero))) e zero p r s i t b F K small low visits pays splits grows asks c = absurd (omega arith)
chain (suc v) (suc (suc (suc zero))) e (suc n) p r s i t b F K small low visits pays splits grows asks c =
    let now : turned b r ≡ C = sym (turned_two b r) ∙ ap (turned b) (let h : suc (suc r) ≡ r + (3 + 1) / 2 = omega arith in h) ∙ asks (omega arith) in
    step v i C (separator_left 3 (xs_left r F)) (separator_left 0 (xs_left r c.0)) (xs_left t (separator_left e (xs_left s K)))
    (visit_s3 (subst (λ a. AnswersBy a (xs_left r F) (xs_left r c.0)) now (through_x r c.1)))
    (chain v 0 e n p r s (suc i) t b c.0 K (omega arith) low (omega arith) (omega arith) (omega arith) (omega arith)
    (λ q. ap (turned b) (let h : r + (0 + 1) / 2 ≡ r = omega arith in h) ∙ now) c.2)
chain (suc v) (suc (suc (suc (suc d)))) e n p r s i t b F K small low visits pays splits grows asks c = absurd (omega arith)

pub visits_separator : (d v r : ℕ) {b : Answer} {F K : List Sym} → d ≤ 3 → paid d v ≤ r → (1 ≤ (d + v) / 4 → turned b (r + (d + 1) / 2) ≡ C) →
    Visits b ((d + v) / 4) F K → Visits (separator_answer d) v (separator_left d (xs_left r F)) (xs_left v (separator_left ((d + v) % 4) (xs_left (r - paid d v) K)))
unfolding turned xs_left
visits_separator d v r {b} {F} {K} small pays asks w = record {
  chain = chain v d ((d + v) % 4) ((d + v) / 4) (paid d v) r (r - paid d v) 0 v b F K small (omega arith) (omega arith) (omega arith) (omega arith) (omega arith) asks w.chain;
}

-- The glider for so many periods.
even_more : (k b i : ℕ) → i % 2 ≡ 0 → b % 2 ≡ 0 → (k * i + b) % 2 ≡ 0
even_more zero b i p q = omega arith
even_more (suc k) b i p q = let r : (k * i + b) % 2 ≡ 0 = even_more k b i p q in omega arith

-- a rope may stand first or last
times_last : (k : ℕ) (gs : List ℕ) → rope_times k gs ++ gs ≡ gs ++ rope_times k gs
times_last zero gs = sym (append-nil gs)
times_last (suc k) gs = append_assoc gs (rope_times k gs) gs ∙ ap (λ x. gs ++ x) (times_last k gs)

module _ (g : List Sym → List Sym) (gap vp bp : ℕ) (j : List ℕ) (glides : Glides g gap vp bp j) where
  pub glide : (k b : ℕ) → b % 2 ≡ 0 → (l : List Sym) → (u : List Sym) × Visits A (k * vp) (glider_at g gap (k * bp + b) l) (rope_left (rope_times k j) (glider_at g gap b u))
  unfolding rope_left
  glide zero b even l =
      let e : b ≡ 0 * bp + b = omega arith in
      let z : 0 ≡ 0 * vp = omega arith in
      (l, subst (λ i. Visits A i (glider_at g gap (0 * bp + b) l) (glider_at g gap b l)) z (subst (λ i. Visits A 0 (glider_at g gap i l) (glider_at g gap b l)) e (no_visit A (glider_at g gap b l))))
  glide (suc k) b even l =
      let still : (k * bp + b) % 2 ≡ 0 = even_more k b bp glides.even even in
      let (u, first) = glides.run (k * bp + b) still l in
      let (w, more) = glide k b even u in
      let n : vp + k * vp ≡ suc k * vp = omega arith in
      let i : bp + (k * bp + b) ≡ suc k * bp + b = omega arith in
      let all = visits_join first (visits_rope j glides.odd more) in
      let e : rope_left j (rope_left (rope_times k j) (glider_at g gap b w)) ≡ rope_left (rope_times (suc k) j) (glider_at g gap b w) =
      sym (rope_left_append (rope_times k j) j (glider_at g gap b w)) ∙ ap (λ x. rope_left x (glider_at g gap b w)) (times_last k j) in (
        w,
        subst (λ x. Visits A x (glider_at g gap (suc k * bp + b) l) (rope_left (rope_times (suc k) j) (glider_at g gap b w))) n
            (subst (λ x. Visits A (vp + k * vp) (glider_at g gap x l) (rope_left (rope_times (suc k) j) (glider_at g gap b w))) i
            (subst (λ x. Visits A (vp + k * vp) (glider_at g gap (bp + (k * bp + b)) l) x) e all)),
      )
