-- What Skelet 34 and 35 have in common: all but their entry E1, and three rules that meet it. For these they take 2
-- steps each more or less; each file says how many. With them, and those of Skelet33To35, w and n any numbers, t the
-- steps of `meet`:
--
--     inc        x B> 0 (11)^n 10 y          -> x <A 0 (10)^n 11 y            1 + 6 n + t + 2 n
--     over       x B> 0 (11)^(w + 1) $       -> x <C 1 (01)^(w + 1) 1 $
--     eat_near   x 01001 (0001)^k <A 0 y     -> x 1 <A 0 (10)^(2 k + 1) 11 y
--     eat_far    x 011 (0001)^k <A 0 y       -> x 1 <A 0 (10)^(2 k) 11 y
--     first      x B> 01 (01)^(w + 1) 1 $    -> x <A 0 11 (10)^w 11 $
use Rattle.std.proofs.Common.{ℕ, suc, ◌+◌, ◌*◌, ◌≤◌, List, [], ◌∷◌, sym, ◌∙◌, ap, refl, arith}
use Rattle.machine_text.specs.declared.table.Sym.{Sym}
use Rattle.machine_text.specs.declared.table.Sym.TheVariants.{Zero, One}
use Rattle.machine_text.specs.Terms.{entry_of}
use Rattle.law_turing.specs.Terms.{Never}
use Rattle.law_machines.specs.Zipper.{AtLeft, AtRight, blank_zipper, steps, Comes, Goes, repeat}
use Rattle.law_machines.proofs.RuleLaws.{run, run⁺, same, ◌⨾◌, ◌⨾⁺◌, ◌⁺⨾◌, repeat_last, repeat_turned}
use Rattle.law_machines.proofs.DigitLists.{i, ii, io, oi, iooo, twice, val, full, pairs}
use Rattle.law_machines.proofs.ShiftTapes.{fours, by, by_two, by_pairs, by_twice, tapes_never}
use Rattle.law_machines.proofs.Skelet33To35.{machine, carry, clear, forth, back, turn, turn_near, turn_far}

module _ (e : ℕ)
    (meet : (x y : List Sym) → Comes (machine e) (AtRight (Zero ∷ x) 2 (One ∷ Zero ∷ y))
    (AtLeft x 0 (Zero ∷ One ∷ One ∷ y)))
    (meet_end : (x : List Sym) → Comes (machine e) (AtRight (Zero ∷ One ∷ x) 2 []) (AtLeft x 0 (Zero ∷ One ∷ One ∷ [])))
    (meet_old : (x y : List Sym) →
    Goes (machine e) (AtLeft (One ∷ Zero ∷ Zero ∷ One ∷ Zero ∷ x) 0 y)
    (AtRight (One ∷ x) 1 (Zero ∷ One ∷ One ∷ One ∷ y))) where
  inc : (n : ℕ) (x y : List Sym) →
      Comes (machine e) (AtRight x 1 (Zero ∷ repeat ii n (One ∷ Zero ∷ y)))
      (AtLeft x 0 (Zero ∷ repeat io n (One ∷ One ∷ y)))
  unfolding entry_of steps
  inc n x y =
      run (machine e) 1 _ _ refl ⨾
      forth e n x (One ∷ Zero ∷ y) ⨾
      meet (repeat ii n x) y ⨾
      back e n x (Zero ∷ One ∷ One ∷ y) ⨾
      same (machine e) (ap (AtLeft x 0) (repeat_turned Zero One n (One ∷ One ∷ y)))

  over : (w : ℕ) (x : List Sym) →
      Comes (machine e) (AtRight x 1 (Zero ∷ repeat ii (suc w) [])) (AtLeft x 2 (One ∷ repeat oi (suc w) (One ∷ [])))
  unfolding entry_of steps
  over w x =
      run (machine e) 1 _ _ refl ⨾
      forth e (suc w) x [] ⨾
      meet_end (One ∷ repeat ii w x) ⨾
      same (machine e) (ap (λ z. AtLeft z 0 (Zero ∷ One ∷ One ∷ [])) (sym (repeat_turned One One w x))) ⨾
      back e w (One ∷ x) (Zero ∷ One ∷ One ∷ []) ⨾
      run (machine e) 1 _ _ refl ⨾
      same (machine e) (ap (λ z. AtLeft x 2 (One ∷ z)) (repeat_last oi w (One ∷ [])))

  eat_near : (k : ℕ) (x y : List Sym) →
      Goes (machine e) (AtLeft (repeat iooo k (One ∷ Zero ∷ Zero ∷ One ∷ Zero ∷ x)) 0 (Zero ∷ y))
      (AtLeft (One ∷ x) 0 (Zero ∷ pairs (by (suc (twice k))) y))
  eat_near k x y =
      carry e k (One ∷ Zero ∷ Zero ∷ One ∷ Zero ∷ x) (Zero ∷ y) ⨾⁺
      meet_old x (repeat (One ∷ One ∷ One ∷ One ∷ []) k (Zero ∷ y)) ⁺⨾
      same (machine e) (ap (λ z. AtRight (One ∷ x) 1 (Zero ∷ One ∷ One ∷ One ∷ z)) (fours k (Zero ∷ y))
      ∙ ap (λ z. AtRight (One ∷ x) 1 (Zero ∷ One ∷ One ∷ z)) (sym (repeat_turned One One (twice k) (Zero ∷ y)))) ⨾
      inc (suc (twice k)) (One ∷ x) y ⨾
      by_pairs (machine e) 0 (suc (twice k)) (One ∷ x) y

  eat_far : (k : ℕ) (x y : List Sym) →
      Goes (machine e) (AtLeft (repeat iooo k (One ∷ One ∷ Zero ∷ x)) 0 (Zero ∷ y))
      (AtLeft (One ∷ x) 0 (Zero ∷ pairs (by (twice k)) y))
  unfolding entry_of steps
  eat_far k x y =
      carry e k (One ∷ One ∷ Zero ∷ x) (Zero ∷ y) ⨾⁺
      run⁺ (machine e) 2 _ _ refl ⁺⨾
      same (machine e) (ap (λ z. AtRight (One ∷ x) 1 (Zero ∷ One ∷ z)) (fours k (Zero ∷ y))
      ∙ ap (λ z. AtRight (One ∷ x) 1 (Zero ∷ z)) (sym (repeat_turned One One (twice k) (Zero ∷ y)))) ⨾
      inc (twice k) (One ∷ x) y ⨾
      by_pairs (machine e) 0 (twice k) (One ∷ x) y

  first : (w : ℕ) (x : List Sym) →
      Comes (machine e) (AtRight x 1 (Zero ∷ One ∷ repeat oi (suc w) (One ∷ [])))
      (AtLeft x 0 (Zero ∷ One ∷ One ∷ repeat io w (One ∷ One ∷ [])))
  first w x =
      inc 0 x (One ∷ repeat oi w (One ∷ [])) ⨾
      same (machine e) (ap (λ z. AtLeft x 0 (Zero ∷ One ∷ One ∷ z)) (sym (repeat_turned One Zero w (One ∷ []))))

  -- from a right counter r on
  pub counts_never : (r : List Sym) → full r + 4 ≤ 2 * val r →
      Comes (machine e) blank_zipper (AtLeft i 0 (Zero ∷ pairs r [])) → Never (machine e)
  counts_never r low begin =
      tapes_never (machine e) 0 1 2 [] (λ w. repeat oi w (One ∷ [])) (carry e) (clear e) (turn e) inc over (turn_near e)
      (turn_far e) first first
      (λ k. by (suc (twice k))) (λ k. by (twice k)) eat_near eat_far
      (λ k. by_two (suc (twice k)) (omega arith)) by_twice r low begin
