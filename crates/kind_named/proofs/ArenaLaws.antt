-- The laws of ropes: a further one leaves the others as they are.
use Rattle.std.proofs.Common.{◌≡◌, ℕ, zero, suc, ◌+◌, ◌-◌, ◌<◌, ◌≤◌, List, [], ◌∷◌, ◌++◌, length, get_or, Bool, true, sym, ◌∙◌, ap, subst, refl, inl, inr, arith, append_assoc, length-append}
use Rattle.std.proofs.lemmas.List.{get_or_append_left, get_or_past, append-nil}
use Rattle.std.proofs.Math.Seq.{get_or-append_seam}
use Rattle.std.proofs.lemmas.Bool.{cases_lt}
use Rattle.kind_named.specs.inside.Tokens.{AreOdd, AreLong, rope_times, groups_at, node_groups, ropes_of, RopesAdded, RefersBelow, IsPiece, HasGroups, IsArena}
use Rattle.kind_named.specs.declared.ropes.Node.{Node}
use Rattle.kind_named.specs.declared.ropes.Node.TheVariants.{Group, Joined, Repeated}
use Rattle.kind_named.specs.declared.ropes.Piece.{Piece}
use Rattle.kind_named.proofs.Sweeps.{odd_append, long_append}

pub meanings_push : (ps : List Piece) (ropes : List (List ℕ)) (p : Piece) → ropes_of ropes (ps ++ p ∷ []) ≡ ropes_of ropes ps ++ node_groups (ropes_of ropes ps) p.node ∷ []
unfolding ropes_of
meanings_push [] ropes p = refl
meanings_push (q ∷ ps) ropes p = meanings_push ps (ropes ++ node_groups ropes q.node ∷ []) p

pub length_meanings : (ps : List Piece) (ropes : List (List ℕ)) → length (ropes_of ropes ps) ≡ length ropes + length ps
unfolding ropes_of
length_meanings [] ropes = omega arith
length_meanings (q ∷ ps) ropes =
    let more = length_meanings ps (ropes ++ node_groups ropes q.node ∷ []) in
    let one : length (ropes ++ node_groups ropes q.node ∷ []) ≡ length ropes + 1 = length-append ropes (node_groups ropes q.node ∷ []) in
    omega (arith, more, one)

pub count_meanings : (ps : List Piece) → length (ropes_of [] ps) ≡ length ps
count_meanings ps = let more = length_meanings ps [] in omega (arith, more)

pub rope_before : (ropes : List (List ℕ)) (gs : List ℕ) (i : ℕ) → i < length ropes → groups_at (ropes ++ gs ∷ []) i ≡ groups_at ropes i
rope_before ropes gs i less = get_or_append_left ropes (gs ∷ []) [] i less

pub rope_here : (ropes : List (List ℕ)) (gs : List ℕ) → groups_at (ropes ++ gs ∷ []) (length ropes) ≡ gs
rope_here ropes gs = get_or-append_seam ropes gs [] []

pub extends_push : (ropes : List (List ℕ)) (gs : List ℕ) → RopesAdded ropes (ropes ++ gs ∷ [])
extends_push ropes gs = record { keeps = rope_before ropes gs; grows = let n = length-append ropes (gs ∷ []) in omega (arith, n) }

pub extends_same : (ropes : List (List ℕ)) → RopesAdded ropes ropes
extends_same ropes = record { keeps = λ i less. refl; grows = omega arith }

pub extends_on : (a b c : List (List ℕ)) → RopesAdded a b → RopesAdded b c → RopesAdded a c
extends_on a b c e f = record { keeps = λ i less. f.keeps i (let g = e.grows in omega arith) ∙ e.keeps i less; grows = let g = e.grows in let h = f.grows in omega arith }

-- what is made of ropes that are there means the same later
meaning_kept : (a b : List (List ℕ)) (n : Node) → RopesAdded a b → RefersBelow (length a) n → node_groups b n ≡ node_groups a n
meaning_kept a b (Group g) e refers = refl
meaning_kept a b (Joined i j) e refers = ap (λ x. x ++ groups_at b j) (e.keeps i refers.0) ∙ ap (λ x. groups_at a i ++ x) (e.keeps j refers.1)
meaning_kept a b (Repeated i k) e refers = ap (rope_times k) (e.keeps i refers)

refers_more : (n k : ℕ) (node : Node) → n ≤ k → RefersBelow n node → RefersBelow k node
refers_more n k (Group g) less refers = tt
refers_more n k (Joined i j) less refers = let p = refers.0 in let q = refers.1 in (omega arith, omega arith)
refers_more n k (Repeated i c) less refers = omega arith

pub odd_times : (n : ℕ) (gs : List ℕ) → AreOdd gs → AreOdd (rope_times n gs)
odd_times zero gs odd = tt
odd_times (suc n) gs odd = odd_append gs (rope_times n gs) odd (odd_times n gs odd)

pub long_times : (n : ℕ) (gs : List ℕ) → AreLong gs → AreLong (rope_times n gs)
long_times zero gs long = tt
long_times (suc n) gs long = long_append gs (rope_times n gs) long (long_times n gs long)

-- what a rope's own piece says of it
pub means_rope : (ps : List Piece) → IsArena ps → (i : ℕ) (p : Piece) → i < length (ropes_of [] ps) → p ≡ get_or ps i p → HasGroups (ropes_of [] ps) i p
means_rope ps arena i p less is = arena.means i p (let n = count_meanings ps in omega arith) is

pub arena_none : IsArena []
unfolding ropes_of
arena_none = record { means = λ i p less is. absurd (omega arith); odd = λ i. tt }

-- one more
module _ (ps : List Piece) (arena : IsArena ps) (p : Piece) (is : IsPiece (ropes_of [] ps) p) where
  before : List (List ℕ)
  before = ropes_of [] ps

  grown : RopesAdded (ropes_of [] ps) (ropes_of [] (ps ++ p ∷ []))
  grown = subst (RopesAdded (ropes_of [] ps)) (sym (meanings_push ps [] p)) (extends_push (ropes_of [] ps) (node_groups (ropes_of [] ps) p.node))

  here : groups_at (ropes_of [] (ps ++ p ∷ [])) (length ps) ≡ node_groups (ropes_of [] ps) p.node
  here =
      ap (λ x. groups_at x (length ps)) (meanings_push ps [] p) ∙
      ap (groups_at (ropes_of [] ps ++ node_groups (ropes_of [] ps) p.node ∷ [])) (sym (count_meanings ps)) ∙
      rope_here (ropes_of [] ps) (node_groups (ropes_of [] ps) p.node)

  old : (i : ℕ) → i < length ps → groups_at (ropes_of [] (ps ++ p ∷ [])) i ≡ groups_at (ropes_of [] ps) i
  old i less = grown.keeps i (let n = count_meanings ps in omega arith)

  means_old : (i : ℕ) (q : Piece) → i < length ps → HasGroups (ropes_of [] ps) i q → HasGroups (ropes_of [] (ps ++ p ∷ [])) i q
  means_old i q less machine = record {
    refers = machine.refers;
    is = old i less ∙ machine.is ∙ sym (meaning_kept (ropes_of [] ps) (ropes_of [] (ps ++ p ∷ [])) q.node grown (refers_more i (length (ropes_of [] ps)) q.node (let n = count_meanings ps in omega arith) machine.refers));
    long = λ yes. subst AreLong (sym (old i less)) (machine.long yes);
  }

  means_new : HasGroups (ropes_of [] (ps ++ p ∷ [])) (length ps) p
  means_new = record {
    refers = subst (λ n. RefersBelow n p.node) (count_meanings ps) is.refers;
    is = here ∙ sym (meaning_kept (ropes_of [] ps) (ropes_of [] (ps ++ p ∷ [])) p.node grown is.refers);
    long = λ yes. subst AreLong (sym here) (is.long yes);
  }

  means_each : (i : ℕ) (q : Piece) → i < length (ps ++ p ∷ []) → q ≡ get_or (ps ++ p ∷ []) i q → HasGroups (ropes_of [] (ps ++ p ∷ [])) i q
  means_each i q less so =
      let n : length (ps ++ p ∷ []) ≡ length ps + 1 = length-append ps (p ∷ []) in
      elim (cases_lt i (length ps)) [
        | inl low ↦ means_old i q low (arena.means i q low (so ∙ get_or_append_left ps (p ∷ []) q i low))
        | inr high ↦
            let e : i ≡ length ps = omega arith in
            let same : q ≡ p = so ∙ ap (λ k. get_or (ps ++ p ∷ []) k q) e ∙ get_or-append_seam ps p [] q in
            subst (λ k. HasGroups (ropes_of [] (ps ++ p ∷ [])) k q) (sym e) (subst (HasGroups (ropes_of [] (ps ++ p ∷ [])) (length ps)) (sym same) means_new)
      ]

  odd_each : (i : ℕ) → AreOdd (groups_at (ropes_of [] (ps ++ p ∷ [])) i)
  odd_each i =
      let n : length (ps ++ p ∷ []) ≡ length ps + 1 = length-append ps (p ∷ []) in
      let k = count_meanings (ps ++ p ∷ []) in
      elim (cases_lt i (length ps)) [
        | inl low ↦ subst AreOdd (sym (old i low)) (arena.odd i)
        | inr high ↦
            elim (cases_lt (length ps) i) [
              | inl past ↦ subst AreOdd (sym (get_or_past (ropes_of [] (ps ++ p ∷ [])) i [] (omega arith))) tt
              | inr at ↦
                  let e : i ≡ length ps = omega arith in
                  subst (λ k. AreOdd (groups_at (ropes_of [] (ps ++ p ∷ [])) k)) (sym e) (subst AreOdd (sym here) is.odd)
            ]
      ]

  pub arena_push : IsArena (ps ++ p ∷ [])
  arena_push = record { means = means_each; odd = odd_each }

  pub grown_push : RopesAdded (ropes_of [] ps) (ropes_of [] (ps ++ p ∷ []))
  grown_push = grown

  pub here_push : (length ps < length (ropes_of [] (ps ++ p ∷ []))) × (groups_at (ropes_of [] (ps ++ p ∷ [])) (length ps) ≡ node_groups (ropes_of [] ps) p.node)
  here_push =
      let n : length (ps ++ p ∷ []) ≡ length ps + 1 = length-append ps (p ∷ []) in
      let k = count_meanings (ps ++ p ∷ []) in
      (omega arith, here)

-- the same, where the ropes are known by another name
pub added : (ps qs : List Piece) (ropes : List (List ℕ)) (p : Piece) → IsArena ps → ropes_of [] ps ≡ ropes → IsPiece ropes p → qs ≡ ps ++ p ∷ [] →
    IsArena qs × RopesAdded ropes (ropes_of [] qs) × (length ps < length (ropes_of [] qs)) × (groups_at (ropes_of [] qs) (length ps) ≡ node_groups ropes p.node)
added ps qs ropes p arena view is so =
    let piece = subst (λ x. IsPiece x p) (sym view) is in
    let here = here_push ps arena p piece in (
      subst IsArena (sym so) (arena_push ps arena p piece),
      subst (λ x. RopesAdded x (ropes_of [] qs)) view (subst (λ x. RopesAdded (ropes_of [] ps) (ropes_of [] x)) (sym so) (grown_push ps arena p piece)),
      subst (λ x. length ps < length (ropes_of [] x)) (sym so) here.0,
      ap (λ x. groups_at (ropes_of [] x) (length ps)) so ∙ here.1 ∙ ap (λ x. node_groups x p.node) view,
    )

pub place_within : (ps : List Piece) (ropes : List (List ℕ)) (n i : ℕ) → ropes_of [] ps ≡ ropes → n ≡ length ps → i < length ropes → i < n
place_within ps ropes n i view size less =
    let e : length ps ≡ length ropes = sym (count_meanings ps) ∙ ap length view in
    omega arith

-- what is known of a rope, by its piece
pub known : (ps : List Piece) (ropes : List (List ℕ)) (i : ℕ) (p : Piece) → IsArena ps → ropes_of [] ps ≡ ropes → i < length ropes → p ≡ get_or ps i p → HasGroups ropes i p
known ps ropes i p arena view less is = subst (λ x. HasGroups x i p) view (means_rope ps arena i p (subst (λ x. i < length x) (sym view) less) is)

pub known_odd : (ps : List Piece) (ropes : List (List ℕ)) (i : ℕ) → IsArena ps → ropes_of [] ps ≡ ropes → AreOdd (groups_at ropes i)
known_odd ps ropes i arena view = subst (λ x. AreOdd (groups_at x i)) view (arena.odd i)

pub joined : (ropes : List (List ℕ)) (a b : ℕ) (l : Bool) → a < length ropes → b < length ropes → AreOdd (groups_at ropes a) → AreOdd (groups_at ropes b) →
    (l ≡ true → AreLong (groups_at ropes a) × AreLong (groups_at ropes b)) → IsPiece ropes (record { node = Joined a b; is_long = l })
joined ropes a b l p q oa ob long = record {
  refers = (p, q);
  odd = odd_append (groups_at ropes a) (groups_at ropes b) oa ob;
  long = λ yes. let both = long yes in long_append (groups_at ropes a) (groups_at ropes b) both.0 both.1;
}

pub repeated : (ropes : List (List ℕ)) (a n : ℕ) (l : Bool) → a < length ropes → AreOdd (groups_at ropes a) → (l ≡ true → AreLong (groups_at ropes a)) →
    IsPiece ropes (record { node = Repeated a n; is_long = l })
repeated ropes a n l p odd long = record { refers = p; odd = odd_times n (groups_at ropes a) odd; long = λ yes. long_times n (groups_at ropes a) (long yes) }

pub times_last : (k : ℕ) (gs : List ℕ) → rope_times k gs ++ gs ≡ gs ++ rope_times k gs
times_last zero gs = sym (append-nil gs)
times_last (suc k) gs = append_assoc gs (rope_times k gs) gs ∙ ap (λ x. gs ++ x) (times_last k gs)

pub times_front : (n : ℕ) (gs : List ℕ) → 1 ≤ n → rope_times n gs ≡ gs ++ rope_times (n - 1) gs
times_front zero gs some = absurd (omega arith)
times_front (suc n) gs some = ap (λ k. gs ++ rope_times k gs) (let p : n ≡ suc n - 1 = omega arith in p)

pub times_back : (n : ℕ) (gs : List ℕ) → 1 ≤ n → rope_times n gs ≡ rope_times (n - 1) gs ++ gs
times_back n gs some = times_front n gs some ∙ sym (times_last (n - 1) gs)

-- what a rope's piece says, by the kind of its node
pub known_group : (ropes : List (List ℕ)) (i g : ℕ) (p : Piece) → HasGroups ropes i p → p.node ≡ Group g → groups_at ropes i ≡ g ∷ []
known_group ropes i g p means is = means.is ∙ ap (node_groups ropes) is

pub known_joined : (ropes : List (List ℕ)) (i a b : ℕ) (p : Piece) → i < length ropes → HasGroups ropes i p → p.node ≡ Joined a b →
    (a < length ropes) × (b < length ropes) × (groups_at ropes i ≡ groups_at ropes a ++ groups_at ropes b)
known_joined ropes i a b p less means is =
    let refers : RefersBelow i (Joined a b) = subst (RefersBelow i) is means.refers in
    let x = refers.0 in let y = refers.1 in
    (omega arith, omega arith, means.is ∙ ap (node_groups ropes) is)

pub known_repeated : (ropes : List (List ℕ)) (i a n : ℕ) (p : Piece) → i < length ropes → HasGroups ropes i p → p.node ≡ Repeated a n →
    (a < length ropes) × (groups_at ropes i ≡ rope_times n (groups_at ropes a))
known_repeated ropes i a n p less means is =
    let refers : RefersBelow i (Repeated a n) = subst (RefersBelow i) is means.refers in
    (omega arith, means.is ∙ ap (node_groups ropes) is)

-- the two parts of a repeated rope, of which one is new
module _ (old new : List (List ℕ)) (i a n k : ℕ) (e : RopesAdded old new) (less : a < length old) (is : groups_at old i ≡ rope_times n (groups_at old a)) (two : 2 ≤ n)
    (others : (k < length new) × (groups_at new k ≡ rope_times (n - 1) (groups_at old a))) where
  pub front_parts : (a < length new) × (k < length new) × (groups_at old i ≡ groups_at new a ++ groups_at new k)
  front_parts = (
    let g = e.grows in omega arith,
    others.0,
    is ∙ times_front n (groups_at old a) (omega arith) ∙ ap (λ x. groups_at old a ++ x) (sym others.1) ∙ ap (λ x. x ++ groups_at new k) (sym (e.keeps a less)),
  )

  pub leftward_parts : (k < length new) × (a < length new) × (groups_at old i ≡ groups_at new k ++ groups_at new a)
  leftward_parts = (
    others.0,
    let g = e.grows in omega arith,
    is ∙ times_back n (groups_at old a) (omega arith) ∙ ap (λ x. x ++ groups_at old a) (sym others.1) ∙ ap (λ x. groups_at new k ++ x) (sym (e.keeps a less)),
  )
