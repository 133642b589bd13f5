-- What known cells say of a head, and what a run and counted paths show of a table.
use Rattle.std.proofs.Common.{◌≡◌, ◌≢◌, ℕ, ◌<◌, ◌==◌, ◌&&◌, Bool, cond, ℤ, pos, negsuc, ◌+ℤ◌, List, length, get_or, set, Option, Some, None, sym, ◌∙◌, ap, refl, arith, get_or-set_other, get_or-set_same, suc, ◌+◌, ◌-◌, ◌*◌, ◌≤◌, true, false, [], ◌∷◌, Result, Ok, Err, inl, inr, subst}
use Rattle.std.specs.Ordering.{int_eq}
use Rattle.std.proofs.Math.Path.{fun_ext}
use Rattle.std.proofs.lemmas.Int.{ints}
use Rattle.std.specs.Option.{is_some}
use Rattle.std.specs.Result.{is_err}
use Rattle.std.proofs.lemmas.Bool.{cases_lt}
use Rattle.machine_text.specs.declared.table.Sym.{Sym}
use Rattle.machine_text.specs.declared.table.Dir.{Dir}
use Rattle.machine_text.specs.declared.table.Dir.TheVariants.{L, R}
use Rattle.machine_text.specs.declared.table.Entry.{Entry}
use Rattle.law_turing.specs.Terms.{moved_head, opposite, Config, start, after, Pair, Partial, standing_on, left_behind, before_step, may_hold, can_lead_to, known_before, known_at_end, level, Backward}
use Rattle.law_turing.proofs.RunLaws.{by_place, not_tied, before, not_past, table_machine}
use Rattle.backward.specs.inside.{known_cell, known_about, pair_at, paths_beyond, CountsOn, Exceeds, AreWidths, HasTooMany, Does, SaysDone, Counted}
use Rattle.machine_text.specs.Terms.{Packed, entry_of, IsTable}
use Rattle.law_turing.proofs.BackwardLaws.{same_pair}
use Rattle.backward.specs.Limits.{path_limit}
use Rattle.backward.proofs.Counting.{sum_first, sum_first-zero, sum_first-more, sum_first-le, if_known, if_known-none, if_known-some, sum_of_pairs, paths_of_level}
use Rattle.law_turing.proofs.LevelLaws.{level_wider, longer_level, backward_level, level_backward, empty_below}
use Rattle.run.specs.Terms.{RunState, RunsTo}
use Rattle.run.specs.declared.runner.Step.{Step}
use Rattle.run.specs.declared.runner.Step.TheVariants.{Went, Halts}
use Rattle.run.proofs.Standings.{begun}
use Rattle.backward.specs.Kind.{IsTooWide}
use Rattle.backward.specs.declared.paths.TooWide.{TooWide}

-- What a stretch of known cells says about a head, before a step and after it.

-- a cell that is known anew, and the others
known_cell-same : (cells : List (Option Sym)) (i : ℕ) (o : Option Sym) (x : ℤ) → x ≡ pos i → i < length cells → known_cell (set cells i o) x ≡ o
known_cell-same cells i o x here within = ap (known_cell (set cells i o)) here ∙ get_or-set_same cells i o None within

known_cell-other : (cells : List (Option Sym)) (i : ℕ) (o : Option Sym) (x : ℤ) → (x ≡ pos i → ⊥) → known_cell (set cells i o) x ≡ known_cell cells x
known_cell-other cells i o (pos j) other = get_or-set_other cells i j o None (λ e. other (ap pos e))
known_cell-other cells i o (negsuc j) other = refl

-- where a place that is counted from one head stands, counted from the head that it left behind
from_behind : (d : Dir) (x h : ℤ) → (h +ℤ left_behind d) +ℤ x ≡ h +ℤ moved_head x (opposite d)
from_behind L x h = omega (arith, ints)
from_behind R x h = omega (arith, ints)

same_known : (q : ℕ) (f g : ℤ → Option Sym) → ((x : ℤ) → f x ≡ g x) → ◌≡◌ {A = Partial} (record { state = q; cells = f }) (record { state = q; cells = g })
same_known q f g same = let both : f ≡ g = fun_ext same in ap (λ (h : ℤ → Option Sym). let k : Partial = record { state = q; cells = h } in k) both

-- the cells with the symbol of a pair say about its head what is known before a step from there
pub known_before_step : (cells : List (Option Sym)) (state head : ℕ) (p : Pair) (e : Entry) (place : ℕ) → place < length cells → pos place ≡ pos head +ℤ left_behind e.dir →
    known_about (set cells place (Some p.symbol)) p.state place ≡ before_step p e (known_about cells state head)
unfolding known_about
known_before_step cells state head p e place within behind =
    same_known p.state _ _
    (λ x. by_place x (pos 0)
    (λ here.
    known_cell-same cells place (Some p.symbol) (pos place +ℤ x) (let at : pos place +ℤ x ≡ pos place = omega (arith, ints) in at) within
    ∙ sym (ap (λ y. cond (int_eq y (pos 0)) (Some p.symbol) (known_cell cells (pos head +ℤ moved_head x (opposite e.dir)))) here))
    (λ other.
    known_cell-other cells place (Some p.symbol) (pos place +ℤ x) (λ at. other (omega (arith, ints)))
    ∙ ap (λ y. known_cell cells (y +ℤ x)) behind
    ∙ ap (known_cell cells) (from_behind e.dir x (pos head))
    ∙ sym (ap (λ t. cond t (Some p.symbol) (known_cell cells (pos head +ℤ moved_head x (opposite e.dir)))) (not_tied x (pos 0) other))))

-- whether the step can be taken
leads_is : (cells : List (Option Sym)) (state head : ℕ) (e : Entry) (place : ℕ) → pos place ≡ pos head +ℤ left_behind e.dir →
    can_lead_to e (known_about cells state head) ≡ ((state == e.next.0) && may_hold (get_or cells place None) e.write)
unfolding known_about
leads_is cells state head e place behind = ap (λ y. (state == e.next.0) && may_hold (known_cell cells y) e.write) (sym behind)

-- so what is known before a pair is the cells with its symbol, if the step can be taken
pub known_before_is : (cells : List (Option Sym)) (state head : ℕ) (p : Pair) (e : Entry) (place : ℕ) (o : Option Entry) (leads : Bool) →
    place < length cells → pos place ≡ pos head +ℤ left_behind e.dir → o ≡ Some e → leads ≡ ((state == e.next.0) && may_hold (get_or cells place None) e.write) →
    known_before (known_about cells state head) p o ≡ cond leads (Some (known_about (set cells place (Some p.symbol)) p.state place)) None
known_before_is cells state head p e place o leads within behind entry is =
    ap (known_before (known_about cells state head) p) entry
    ∙ ap (λ k. cond (can_lead_to e (known_about cells state head)) (Some k) None) (sym (known_before_step cells state head p e place within behind))
    ∙ ap (λ b. cond b (Some (known_about (set cells place (Some p.symbol)) p.state place)) None) (leads_is cells state head e place behind ∙ sym is)

-- with no entry nothing comes before
pub nothing_before : (needs : Partial) (p : Pair) (o : Option Entry) → o ≡ None → known_before needs p o ≡ None
nothing_before needs p o none = ap (known_before needs p) none

-- where no other cell is known, it says what is known on the pair alone
pub known_alone : (cells : List (Option Sym)) (head : ℕ) (p : Pair) → head < length cells → ((x : ℕ) → x ≢ head → get_or cells x None ≡ None) → known_about (set cells head (Some p.symbol)) p.state head ≡ standing_on p
unfolding known_about
known_alone cells head p within unknown =
    same_known p.state _ _
    (λ x. by_place x (pos 0)
    (λ here.
    known_cell-same cells head (Some p.symbol) (pos head +ℤ x) (let at : pos head +ℤ x ≡ pos head = omega (arith, ints) in at) within
    ∙ sym (ap (λ y. cond (int_eq y (pos 0)) (Some p.symbol) None) here))
    (λ other.
    known_cell-other cells head (Some p.symbol) (pos head +ℤ x) (λ at. other (omega (arith, ints)))
    ∙ nothing (pos head +ℤ x) (λ at. other (omega (arith, ints)))
    ∙ sym (ap (λ t. cond t (Some p.symbol) None) (not_tied x (pos 0) other))))
  where
    nothing : (y : ℤ) → (y ≡ pos head → ⊥) → known_cell cells y ≡ None
    nothing (pos j) other = unknown j (λ e. other (ap pos e))
    nothing (negsuc j) other = refl

-- The numbers of paths of a table, counted from one halting pair after another.

-- the entry of the pair at a place, and how many paths go so many pairs further back than that pair, if it halts
abbrev pub entry_at : Packed → ℕ → Option Entry
entry_at p place = entry_of p (pair_at place).state (pair_at place).symbol

abbrev pub from_place : Packed → ℕ → ℕ → ℕ
from_place p k place = if_known (paths_beyond p.states (entry_of p) k) (known_at_end (pair_at place) (entry_at p place))

-- after the pairs at the first places were gone through
pub record WidthsPart (p : Packed) (places : ℕ) (counts : List ℕ) : Type 0 where
  pub from : (k : ℕ) → k < length counts → get_or counts k 0 ≡ sum_first (from_place p k) places
  pub narrow : (k : ℕ) → get_or counts k 0 ≤ path_limit

pub widths_none : (p : Packed) (counts : List ℕ) → ((k : ℕ) → get_or counts k 0 ≡ 0) → WidthsPart p 0 counts
widths_none p counts zeros = record {
  from = λ k within. zeros k ∙ sym (sum_first-zero (from_place p k));
  narrow = λ k. let z = zeros k in omega arith;
}

one_more : (f : ℕ → ℕ) (places : ℕ) → sum_first f (places + 1) ≡ sum_first f places + f places
one_more f places = ap (sum_first f) (let e : places + 1 ≡ suc places = omega arith in e) ∙ sum_first-more f places

not_at_end : (p : Pair) (o : Option Entry) → is_some o ≡ true → known_at_end p o ≡ None
not_at_end p None some = absurd cc
not_at_end p (Some e) some = refl

at_end : (p : Pair) (o : Option Entry) → is_some o ≡ false → known_at_end p o ≡ Some (standing_on p)
at_end p None none = refl
at_end p (Some e) none = absurd cc

-- a pair that doesn't halt
pub widths_passed : (p : Packed) (places : ℕ) (counts : List ℕ) → is_some (entry_at p places) ≡ true → WidthsPart p places counts → WidthsPart p (places + 1) counts
widths_passed p places counts entry part = record {
  from = λ k within.
      let more = one_more (from_place p k) places in
      let z = if_known-none (paths_beyond p.states (entry_of p) k) _ (not_at_end (pair_at places) (entry_at p places) entry) in
      let is = part.from k within in
      omega arith;
  narrow = part.narrow;
}

-- a halting pair, with the paths that go further back
pub widths_more : (p : Packed) (places : ℕ) (counts newer : List ℕ) → is_some (entry_at p places) ≡ false → WidthsPart p places counts → length newer ≡ length counts →
    CountsOn p 0 (standing_on (pair_at places)) counts newer → WidthsPart p (places + 1) newer
widths_more p places counts newer none part size on = record {
  from = λ k within.
      let more = one_more (from_place p k) places in
      let known = if_known-some (paths_beyond p.states (entry_of p) k) _ _ (at_end (pair_at places) (entry_at p places) none) in
      let is = part.from k (omega arith) in
      let e : 0 + k ≡ k = omega arith in
      let new_at = ap (λ i. get_or newer i 0) e in
      let old_at = ap (λ i. get_or counts i 0) e in
      let new_is = on.from k (omega arith) in
      omega arith;
  narrow = λ k. on.narrow k (part.narrow k);
}

-- the sum over all places is the length of the level
all_ends : (p : Packed) (k : ℕ) → sum_first (from_place p k) (2 * p.states) ≡ length (level p.states (entry_of p) k)
unfolding level
all_ends p k =
    sym (sum_of_pairs (paths_beyond p.states (entry_of p) k) (λ q. known_at_end q (entry_of p q.state q.symbol)) p.states)
    ∙ paths_of_level p.states (entry_of p) 0 k
    ∙ ap (λ i. length (level p.states (entry_of p) i)) (let e : 0 + k ≡ k = omega arith in e)

pub widths_all : (p : Packed) (places : ℕ) (counts : List ℕ) → places ≡ 2 * p.states → WidthsPart p places counts → AreWidths p counts
widths_all p places counts gone part = record {
  each = λ k within. part.from k within ∙ ap (sum_first (from_place p k)) gone ∙ all_ends p k;
  narrow = λ k within. part.narrow k;
}

-- a depth that the paths from a halting pair make too wide
pub widths_exceed : (p : Packed) (places size : ℕ) (counts : List ℕ) → is_some (entry_at p places) ≡ false → places < 2 * p.states → length counts ≡ size → WidthsPart p places counts →
    Exceeds p 0 (standing_on (pair_at places)) counts → HasTooMany p size
widths_exceed p places size counts none within same part over =
    let k = over.further in
    let inside = over.within in
    record {
      depth = k;
      within = omega arith;
      more =
          let is = part.from k (omega arith) in
          let e : 0 + k ≡ k = omega arith in
          let at = ap (λ i. get_or counts i 0) e in
          let known = if_known-some (paths_beyond p.states (entry_of p) k) _ _ (at_end (pair_at places) (entry_at p places) none) in
          let sums = sum_first-more (from_place p k) places in
          let rest : suc places + (2 * p.states - suc places) ≡ 2 * p.states = omega arith in
          let up = sum_first-le (from_place p k) (suc places) (2 * p.states - suc places) in
          let whole = ap (sum_first (from_place p k)) rest in
          let all = all_ends p k in
          let more = over.more in
          omega arith;
    }

-- a pair and its entry by its parts
pub entry_by : (p t : Packed) (place q : ℕ) (s : Sym) → t ≡ p → q ≡ (pair_at place).state → s ≡ (pair_at place).symbol → entry_of t q s ≡ entry_at p place
entry_by p t place q s table state symbol = ap (λ r. entry_of r q s) table ∙ ap (λ r. entry_of p r s) state ∙ ap (entry_of p (pair_at place).state) symbol

pub standing_by : (cells : List (Option Sym)) (head place q : ℕ) (s : Sym) → q ≡ (pair_at place).state → s ≡ (pair_at place).symbol → head < length cells → ((x : ℕ) → x ≢ head → get_or cells x None ≡ None) →
    known_about (set cells head (Some s)) q head ≡ standing_on (pair_at place)
standing_by cells head place q s state symbol within unknown =
    known_alone cells head (record { state = q; symbol = s }) within unknown ∙ ap standing_on (same_pair (record { state = q; symbol = s }) (pair_at place) state symbol)

-- What a run and the counted paths show of a table.

-- a run that came to a time does the steps up to it
pub does : (p : Packed) (d : ℕ) (old new : RunState) (step : Step) → old ≡ begun p → RunsTo d old step new → step ≡ Went → Does p d
does p d old new step began runs went =
    let to : RunsTo d (begun p) Went new = subst (λ (s : Step). RunsTo d (begun p) s new) went (subst (λ (r : RunState). RunsTo d r step new) began runs) in
    let stands = to.0.stands in
    record {
      is_table = subst IsTable to.0.table stands.is_table;
      at = new.config;
      runs = ap (λ (q : Packed). after (entry_of q) d) (sym to.0.table) ∙ ap (after (entry_of new.table)) (sym to.1) ∙ stands.at;
    }

-- it doesn't
pub does_not : (p : Packed) (d : ℕ) (old new : RunState) (step : Step) → old ≡ begun p → RunsTo d old step new → (step ≡ Went → ⊥) → (at : Config) → after (entry_of p) d ≡ Some at → ⊥
does_not p d old new step began runs other at is = go step (subst (λ (r : RunState). RunsTo d r step new) began runs) other
  where
    go : (s : Step) → RunsTo d (begun p) s new → (s ≡ Went → ⊥) → ⊥
    go Went to other = other refl
    go (Halts count) to other = omega (arith, not_past (entry_of p) d count at is to.1.halts, to.2)

-- what the last step that was carried out says of it
pub says_done : (p : Packed) (d : ℕ) (old new : RunState) (step : Step) (done : Bool) → old ≡ begun p → RunsTo d old step new → (done ≡ true → step ≡ Went) → (done ≡ false → step ≡ Went → ⊥) → SaysDone p d done
says_done p d old new step true began runs went other = does p d old new step began runs (went refl)
says_done p d old new step false began runs went other = does_not p d old new step began runs (other refl)

pub done_is : (p : Packed) (d : ℕ) (done : Bool) → SaysDone p d done → done ≡ true → Does p d
done_is p d true says is = says
done_is p d false says is = absurd cc

pub done_not : (p : Packed) (d : ℕ) (done : Bool) → SaysDone p d done → done ≡ false → (at : Config) → after (entry_of p) d ≡ Some at → ⊥
done_not p d true says is = absurd cc
done_not p d false says is = says

-- what the counter says
pub counted_err : (p : Packed) (d : ℕ) (counted : Result (Unit {0}) TooWide) (counts : List ℕ) → Counted p d counted counts → is_err counted ≡ true → HasTooMany p (d + 1)
counted_err p d (Ok _) counts says is = absurd cc
counted_err p d (Err _) counts says is = says

pub counted_ok : (p : Packed) (d : ℕ) (counted : Result (Unit {0}) TooWide) (counts : List ℕ) → Counted p d counted counts → is_err counted ≡ false → AreWidths p counts × (length counts ≡ d + 1)
counted_ok p d (Ok _) counts says is = says
counted_ok p d (Err _) counts says is = absurd cc

empty_list : {X : Type 0} (xs : List X) → length xs ≡ 0 → xs ≡ []
empty_list [] none = refl
empty_list (x ∷ xs) none = absurd (omega arith)

-- some depth is too wide
pub too_wide : (p : Packed) (d : ℕ) → Does p d → HasTooMany p (d + 1) → IsTooWide p d
too_wide p d run many = record {
  at = run.at;
  runs = run.runs;
  depth = many.depth;
  within = let h = many.within in omega arith;
  wider = longer_level p.states (entry_of p) (table_machine p run.is_table) many.depth path_limit many.more;
}

-- none is
pub not_too_wide : (p : Packed) (d : ℕ) (counts : List ℕ) → Does p d → AreWidths p counts → d < length counts → IsTooWide p d → ⊥
not_too_wide p d counts run widths inside wide =
    let h = wide.within in
    let more = level_wider p.states (entry_of p) (table_machine p run.is_table) wide.depth path_limit wide.wider in
    let is = widths.each wide.depth (omega arith) in
    let small = widths.narrow wide.depth (omega arith) in
    omega arith

-- the claim stands exactly where the last depth has no path
pub stands_if : (p : Packed) (d : ℕ) (counts : List ℕ) → Does p d → AreWidths p counts → d < length counts → get_or counts d 0 ≡ 0 → Backward p.states (entry_of p) d
stands_if p d counts run widths inside none =
    level_backward p.states (entry_of p) (table_machine p run.is_table) d run.at run.runs
    (empty_list (level p.states (entry_of p) d) (sym (widths.each d inside) ∙ none))

pub none_if : (p : Packed) (d : ℕ) (counts : List ℕ) → AreWidths p counts → d < length counts → Backward p.states (entry_of p) d → get_or counts d 0 ≡ 0
none_if p d counts widths inside stands =
    widths.each d inside ∙ ap length (backward_level p.states (entry_of p) d stands).1

-- below a level that is empty no path is left
none_below : (p : Packed) (d k : ℕ) → Backward p.states (entry_of p) d → d ≤ k → length (level p.states (entry_of p) k) ≡ 0
none_below p d k stands early =
    let e : d + (k - d) ≡ k = omega arith in
    ap (λ i. length (level p.states (entry_of p) i)) (sym e)
    ∙ ap length (empty_below p.states (entry_of p) d (k - d) (backward_level p.states (entry_of p) d stands).1)

-- where some depth up to k has too many, a claim of a depth up to k that stands is too wide
pub many_stands : (p : Packed) (k d : ℕ) → IsTable p → HasTooMany p (k + 1) → d ≤ k → Backward p.states (entry_of p) d → IsTooWide p d
many_stands p k d is_table many early stands = record {
  at = stands.at;
  runs = stands.runs;
  depth = many.depth;
  within = elim (cases_lt d many.depth) [
    | inl less ↦ let none = none_below p d many.depth stands (omega arith) in let more = many.more in absurd (omega arith)
    | inr not ↦ not
  ];
  wider = longer_level p.states (entry_of p) (table_machine p is_table) many.depth path_limit many.more;
}

-- where the run doesn't even come to the first depth without a path, no claim stands
pub not_reached : (p : Packed) (least d : ℕ) (counts : List ℕ) → AreWidths p counts → d < length counts → ((k : ℕ) → k < least → get_or counts k 0 ≡ 0 → ⊥) →
    ((at : Config) → after (entry_of p) least ≡ Some at → ⊥) → Backward p.states (entry_of p) d → ⊥
not_reached p least d counts widths inside earlier not stands =
    elim (cases_lt d least) [
      | inl less ↦ earlier d less (none_if p d counts widths inside stands)
      | inr later ↦ let there = before (entry_of p) least d start stands.at later stands.runs in not there.0 there.1
    ]
