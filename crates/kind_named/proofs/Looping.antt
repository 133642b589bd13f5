-- A jump is put together from its parts, and so is the main run, which never ends.
use Rattle.std.proofs.Common.{◌≡◌, Bool, true, false, ap, ℕ, List, [], length, ◌∙◌, subst, suc, ◌+◌, ◌≤◌, sym, refl, arith}
use Rattle.std.proofs.lemmas.Bool.{false≢true}
use Rattle.kind_named.specs.declared.tokens.Beyond.{Beyond}
use Rattle.kind_named.specs.declared.tokens.Beyond.TheVariants.{Blank, Unknown}
use Rattle.machine_text.specs.declared.table.Sym.{Sym}
use Rattle.kind_named.specs.inside.Tokens.{Visits, tokens_left, RopesBelow, JumpsTo, machine, leftward, rightward, AnswersBy, PutsLeft, SameLeft, EndsWith, BothRopesBelow, Visited}
use Rattle.kind_named.specs.declared.visit.Answer.TheVariants.{A, C}
use Rattle.kind_named.specs.declared.tokens.Token.{Token}
use Rattle.kind_named.specs.declared.jump.Section.{Section}
use Rattle.kind_named.specs.inside.Sections.{sections_left, TakesOff, Glided}
use Rattle.kind_named.proofs.Visits.{no_visit, visits_end, visits_go, visits_join, one_visit}
use Rattle.machine_text.specs.Terms.{entry_of}
use Rattle.law_turing.specs.Terms.{Never, start}
use Rattle.law_turing.proofs.RunLaws.{from_add, before}
use Rattle.law_machines.specs.Terms.{Zipper, blank_zipper, Comes, Goes}
use Rattle.law_machines.proofs.RuleLaws.{describes_start, same, weakened, ◌⨾◌, ◌⨾⁺◌, ◌⁺⨾◌, never_by_rules}
use Rattle.kind_named.specs.Kind.{skelet1, RunsFor}
use Rattle.kind_named.specs.inside.Loop.{VisitsOften, GoesRound, MakesTurn, ComesAfter, RunReaches, Repeats, OnTheWay}
use Rattle.kind_named.specs.declared.visit.Answer.{Answer}
use Rattle.kind_named.specs.declared.tokens.Token.TheVariants.{Separator}
use Rattle.kind_named.proofs.Sweeps.{end_A, end_C}
use Rattle.kind_named.proofs.TokenLaws.{left_kept}

-- What is to the left of all tokens.
abbrev is_blank : Beyond → Bool
is_blank Blank = true
is_blank Unknown = false

pub unknown_blank : Unknown ≡ Blank → ⊥
unknown_blank e = false≢true (ap is_blank e)

-- A jump, from its parts.
module _ (beyond : Beyond) (t : ℕ) (a b c d : List (List ℕ)) (ts us vs ws : List Token) (none taken rest : List Section) (empty : none ≡ []) (g : TakesOff (λ l. l) a b ts us none taken) where
  gathered : (n : ℕ) (l : List Sym) → sections_left b taken (tokens_left n b us l) ≡ tokens_left n a ts l
  unfolding sections_left
  gathered n l = g.text n l ∙ ap (λ x. sections_left a x (tokens_left n a ts l)) empty

  pub jumps_plain : RopesBelow (length c) vs → ((n : ℕ) (l k : List Sym) → Visits A 0 k (tokens_left n b us l) → Visits A t (sections_left b taken k) (tokens_left n c vs l)) → JumpsTo beyond beyond t a c ts vs
  jumps_plain w run = record {
    within = w;
    run = λ n even l free. (l, free, subst (λ x. Visits A t x (tokens_left n c vs l)) (gathered n l) (run n l (tokens_left n b us l) (no_visit A (tokens_left n b us l))));
  }

  pub jumps_glide : (i : ℕ) → Glided i b c us vs taken rest → RopesBelow (length d) ws →
      ((n : ℕ) (l k : List Sym) → Visits A i k (tokens_left n c vs l) → Visits A t (sections_left c rest k) (tokens_left n d ws l)) → JumpsTo beyond Unknown t a d ts ws
  jumps_glide i glided w run = record {
    within = w;
    run = λ n even l free.
        let (k, u, same, visits) = glided.run n even l in
        (u, (λ open_end. absurd (unknown_blank open_end)), subst (λ x. Visits A t x (tokens_left n d ws u)) (same ∙ gathered n l) (run n u k visits));
  }

-- The main run, put together.
pub sound_empty : (ropes : List (List ℕ)) (ts ps : List Token) → RopesBelow (length ropes) ts → ps ≡ [] → BothRopesBelow ropes ts ps
unfolding RopesBelow
sound_empty ropes ts ps w is = record { on_left = w; on_right = subst (RopesBelow (length ropes)) (sym is) tt }

pub round_a : (beyond : Beyond) (x : Answer) (a b : List (List ℕ)) (ts us : List Token) → Visited beyond x a b ts us → x ≡ A → GoesRound beyond a b ts us
round_a beyond x a b ts us v is = record {
  within = v.within;
  run = λ l free. (v.run 0 refl l free).run [] ⨾⁺ same machine (ap (λ y. rightward y (tokens_left 0 b us l) []) is) ⨾⁺ end_A (tokens_left 0 b us l);
}

pub round_c : (beyond : Beyond) (x : Answer) (a b c : List (List ℕ)) (ts us vs : List Token) → Visited beyond x a b ts us → x ≡ C → PutsLeft b c (Separator 0) us vs → GoesRound beyond a c ts vs
round_c beyond x a b c ts us vs v is p = record {
  within = p.within;
  run = λ l free.
      (v.run 0 refl l free).run [] ⨾⁺ same machine (ap (λ y. rightward y (tokens_left 0 b us l) []) is) ⨾⁺ end_C (tokens_left 0 b us l) ⁺⨾ same machine (ap (λ y. leftward y []) (sym (p.text 0 l)));
}

pub turn_jump : (beyond beyond' : Beyond) (t : ℕ) (a b : List (List ℕ)) (ts us : List Token) → 1 ≤ t → JumpsTo beyond beyond' t a b ts us → MakesTurn beyond beyond' a b ts us
turn_jump beyond beyond' t a b ts us some j = record {
  within = j.within;
  run = λ l free. let (k, free', visits) = j.run 0 refl l free in (k, free', visits_go some visits);
}

pub turn_round : (beyond beyond' : Beyond) (t : ℕ) (a b c : List (List ℕ)) (ts us vs : List Token) → JumpsTo beyond beyond' t a b ts us → GoesRound beyond' b c us vs → MakesTurn beyond beyond' a c ts vs
turn_round beyond beyond' t a b c ts us vs j r = record {
  within = r.within;
  run = λ l free. let (k, free', visits) = j.run 0 refl l free in (k, free', visits_end visits ⨾⁺ r.run k free');
}

-- at least so many steps
after_none : {z w : Zipper} → Comes machine z w → ComesAfter 0 z w
after_none f = record { run = λ c s. let (k, d, is, there) = f.run c s in (k, omega arith, d, is, there) }

after_more : {n : ℕ} {z w v : Zipper} → ComesAfter n z w → Goes machine w v → ComesAfter (n + 1) z v
after_more {n} f g = record {
  run = λ c s.
      let (i, late, d, is, at) = f.run c s in
      let (j, e, so, there) = g.run d at in
      (i + suc j, omega arith, e, from_add machine i (suc j) c d is ∙ so, there);
}

some_time : {n : ℕ} {z w : Zipper} → ComesAfter n z w → Comes machine z w
some_time f = record { run = λ c s. let (k, late, d, is, there) = f.run c s in (k, d, is, there) }

pub runs_for : (n : ℕ) (beyond : Beyond) (ropes : List (List ℕ)) (ts : List Token) → RunReaches n beyond ropes ts → RunsFor n
runs_for n beyond ropes ts r =
    let (k, late, d, is, there) = r.run.run start describes_start in
    before machine n k start d late is

pub reaches_start : (n : ℕ) (beyond : Beyond) (ropes : List (List ℕ)) (ts : List Token) → n ≡ 0 → ts ≡ [] → RunReaches n beyond ropes ts
unfolding tokens_left RopesBelow
reaches_start n beyond ropes ts none is = record {
  within = subst (RopesBelow (length ropes)) (sym is) tt;
  half = [];
  blank = λ e. refl;
  run = subst (λ k. ComesAfter k blank_zipper (leftward (tokens_left 0 ropes ts []) [])) (sym none)
      (after_none (weakened (end_A []) ⨾ same machine (ap (λ y. leftward (tokens_left 0 ropes y []) []) (sym is))));
}

pub reaches_more : (n k : ℕ) (beyond beyond' : Beyond) (a b : List (List ℕ)) (ts us : List Token) → k ≡ n + 1 → RunReaches n beyond a ts → MakesTurn beyond beyond' a b ts us → RunReaches k beyond' b us
reaches_more n k beyond beyond' a b ts us next r t =
    let (l, blank, run) = t.run r.half r.blank in
    let all = after_more r.run run in
    record { within = t.within; half = l; blank = blank; run = subst (λ i. ComesAfter i blank_zipper (leftward (tokens_left 0 b us l) [])) (sym next) all }

-- the loop
free_text : (ropes : List (List ℕ)) (ts : List Token) (l : List Sym) → ((n : ℕ) → RopesBelow n ts) → tokens_left 0 ropes ts l ≡ tokens_left 0 [] ts l
free_text ropes ts l free = left_kept 0 [] ropes ts l (record { keeps = λ i less. absurd (omega arith); grows = omega arith }) (free 0)

pub passing_start : (tokens ts : List Token) (ropes : List (List ℕ)) → ((n : ℕ) → RopesBelow n tokens) → ts ≡ tokens → OnTheWay tokens ropes ts
passing_start tokens ts ropes free is = record {
  within = subst (RopesBelow (length ropes)) (sym is) (free (length ropes));
  run = λ l. same machine (ap (λ y. leftward y []) (sym (free_text ropes tokens l free) ∙ ap (λ x. tokens_left 0 ropes x l) (sym is)));
}

pub passing_more : (tokens : List Token) (a b c : List (List ℕ)) (ts us vs : List Token) → OnTheWay tokens a ts → GoesRound Unknown a b ts us → SameLeft b c us vs → OnTheWay tokens c vs
passing_more tokens a b c ts us vs p r s = record {
  within = s.within;
  run = λ l. p.run l ⨾ weakened (r.run l (λ e. absurd (unknown_blank e))) ⨾ same machine (ap (λ y. leftward y []) (sym (s.text 0 l)));
}

pub repeats_now : (tokens : List Token) (a b c : List (List ℕ)) (ts us vs : List Token) → ((n : ℕ) → RopesBelow n tokens) → OnTheWay tokens a ts → GoesRound Unknown a b ts us → EndsWith tokens b c us vs → Repeats tokens
repeats_now tokens a b c ts us vs free p r e = record {
  run = λ l. (
    tokens_left 0 c vs l,
    p.run l ⨾⁺ r.run l (λ x. absurd (unknown_blank x)) ⁺⨾ same machine (ap (λ y. leftward y []) (e.text 0 l ∙ free_text c tokens (tokens_left 0 c vs l) free)),
  );
}

pub never : (n : ℕ) (beyond : Beyond) (tokens : List Token) (a b : List (List ℕ)) (ts us : List Token) → ((i : ℕ) → RopesBelow i tokens) → RunReaches n beyond a ts → EndsWith tokens a b ts us → Repeats tokens → Never (entry_of skelet1)
never n beyond tokens a b ts us free r e again =
    never_by_rules machine (List Sym) (λ l. leftward (tokens_left 0 [] tokens l) []) (tokens_left 0 b us r.half)
    (some_time r.run ⨾ same machine (ap (λ y. leftward y []) (e.text 0 r.half ∙ free_text b tokens (tokens_left 0 b us r.half) free)))
    again.run

-- visits of the glider, one more
pub visiting_none : (a : List (List ℕ)) (ts : List Token) → RopesBelow (length a) ts → VisitsOften 0 a a ts ts
visiting_none a ts w = record { within = w; run = λ b even l. no_visit A (tokens_left b a ts l) }

pub visiting_more : (n : ℕ) (x : Answer) (a b c : List (List ℕ)) (ts us vs : List Token) → VisitsOften n a b ts us → Visited Unknown x b c us vs → x ≡ A → VisitsOften (n + 1) a c ts vs
visiting_more n x a b c ts us vs v o is = record {
  within = o.within;
  run = λ i even l.
      let once = subst (λ y. AnswersBy y (tokens_left i b us l) (tokens_left i c vs l)) is (o.run i even l (λ e. absurd (unknown_blank e))) in
      visits_join (v.run i even l) (one_visit once);
}
