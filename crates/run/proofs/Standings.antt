-- Where a runner stands after a step, after a passage and after a sweep.
use Rattle.std.proofs.Common.{◌≡◌, ℕ, suc, ◌+◌, ◌<◌, ◌≤◌, Some, None, refl, sym, ◌∙◌, ap, subst, arith, add-one, ◌≢◌, ◌-◌, ◌*◌, ℤ, pos, ◌+ℤ◌, ◌-ℤ◌, inl, inr, zero}
use Rattle.std.proofs.lemmas.Int.{ints, by_lt_z}
use Rattle.std.specs.Int.{bit_at}
use Rattle.std.specs.Int.RustNames.{unsigned_abs}
use Rattle.std.proofs.lemmas.Bool.{cases_lt}
use Rattle.machine_text.specs.Terms.{Packed, IsTable, entry_of}
use Rattle.machine_text.specs.declared.table.Sym.{Sym}
use Rattle.machine_text.specs.declared.table.Entry.{Entry}
use Rattle.law_turing.specs.Terms.{Machine, Tape, symbol_read, written, moved, Config, start, after, next, done_by, cell_of, moved_head, from, HaltsAt, HaltsOn, score_of, score_at, score_where}
use Rattle.law_turing.proofs.RunLaws.{from_zero, next_is, one_count, not_past, next_taken, table_machine, by_place, cell_other, from_add}
use Rattle.law_turing.proofs.Cycles.{head_reach, states_within}
use Rattle.tape.specs.Terms.{IsWithinLimit, HoldsCells, SameBut, Crosses, place_beyond, last_place, bit_symbol, swept, MaySweep, Sweeps}
use Rattle.run.specs.Limits.{run_step_limit, window_step_limit}
use Rattle.run.specs.Steps.{RunState, OnRun, EndsAt, RunsTo, LeavesCells, LeavesSo, TellsPassage, beyond}
use Rattle.run.specs.declared.runner.Step.{Step}
use Rattle.run.specs.declared.runner.Step.TheVariants.{Went, Halts}
use Rattle.machine_text.specs.declared.table.Dir.{Dir}
use Rattle.machine_text.specs.declared.table.Dir.TheVariants.{L, R}
use Rattle.tape.specs.declared.window.Window.{Window}
use Rattle.tape.proofs.PackedCells.{cell_same, same_ones, same_tape}
use Rattle.run.specs.declared.passages.Passage.{Passage}

-- Where a runner stands, before and after a step.

-- a run begins at time 0
pub stands_at_start : (p : Packed) → IsTable p → OnRun (record { table = p; steps = 0; config = start })
stands_at_start p is_table = record {
  is_table = is_table;
  at = from_zero (entry_of p) start;
  within = omega (arith, is_table.some);
  limit = omega arith;
}

-- it is not far from where it began
pub head_within : (r : RunState) → OnRun r → IsWithinLimit r.config.tape.head
head_within r stands =
    let reach = head_reach (entry_of r.table) r.steps start r.config stands.at in
    record { low = omega (arith, ints, reach.0, stands.limit); high = omega (arith, ints, reach.1, stands.limit) }

-- a step leads to the next time
pub stands_next : (r : RunState) (d : Config) → OnRun r → r.steps < run_step_limit → next (entry_of r.table) r.config ≡ Some d
    → OnRun (record { table = r.table; steps = r.steps + 1; config = d })
stands_next r d stands room step =
    let later : after (entry_of r.table) (r.steps + 1) ≡ Some d = ap (after (entry_of r.table)) (add-one r.steps) ∙ (next_is (entry_of r.table) r.steps start r.config stands.at ∙ step) in
    record {
      is_table = stands.is_table;
      at = later;
      within = states_within r.table.states (entry_of r.table) (table_machine r.table stands.is_table) (r.steps + 1) start d (omega (arith, stands.is_table.some)) later;
      limit = omega arith;
    }

-- on a halting pair the run halts in one step more
pub halts_here : (r : RunState) → OnRun r → next (entry_of r.table) r.config ≡ None → EndsAt r r (r.steps + 1)
halts_here r stands over = record {
  table = refl;
  last = refl;
  halts = record { last = r.steps; at = r.config; is = stands.at; over = over; count = add-one r.steps };
}

-- a run that stands at a time halts in no number of steps up to it
pub not_halted : (r : RunState) (k : ℕ) → OnRun r → k ≤ r.steps → HaltsAt (entry_of r.table) k → ⊥
not_halted r k stands early halts = omega (arith, not_past (entry_of r.table) r.steps k r.config stands.at halts)

-- there is no step on a symbol without an entry
pub no_step : (m : Machine) (c : Config) (s : Sym) → s ≡ symbol_read c.tape → m c.state s ≡ None → next m c ≡ None
no_step m c s read none = ap (done_by c) (ap (m c.state) (sym read) ∙ none)

-- the step by the entry of the symbol that was read
pub step_is : (m : Machine) (c : Config) (s : Sym) (e : Entry) (t : Tape) → s ≡ symbol_read c.tape → m c.state s ≡ Some e → t ≡ moved (written c.tape e.write) e.dir
    → next m c ≡ Some (record { state = e.next.0; tape = t })
step_is m c s e t read entry tape = next_taken m c e (ap (m c.state) (sym read) ∙ entry) ∙ ap (λ u. Some (record { state = e.next.0; tape = u })) (sym tape)

-- a run up to time k that halts finds the count; one that goes on to k has none up to it
pub runs_past : (k : ℕ) (old new : RunState) → RunsTo k old Went new → (j : ℕ) → j ≤ k → HaltsAt (entry_of old.table) j → ⊥
runs_past k old new went j early halts =
    not_halted new j went.0.stands (omega (arith, went.1)) (subst (λ (p : Packed). HaltsAt (entry_of p) j) (sym went.0.table) halts)

-- so a run up to time k that doesn't halt in k steps shows that the table doesn't
pub runs_not : (k : ℕ) (old new : RunState) (step : Step) → RunsTo k old step new → (step ≡ Halts k → ⊥) → HaltsAt (entry_of old.table) k → ⊥
runs_not k old new Went runs other halts = runs_past k old new runs k (omega arith) halts
runs_not k old new (Halts count) runs other halts = other (ap Halts (one_count (entry_of old.table) count k runs.1.halts halts))

-- what a run of a table from time 0 shows of the table
abbrev pub begun : Packed → RunState
begun p = record { table = p; steps = 0; config = start }

pub found_none : (k : ℕ) (p : Packed) (old new : RunState) (step : Step) → old ≡ begun p → RunsTo k old step new → step ≡ Went → (j : ℕ) → j ≤ k → HaltsAt (entry_of p) j → ⊥
found_none k p old new step began runs went j early halts =
    runs_past k (begun p) new (subst (λ (s : Step). RunsTo k (begun p) s new) went (subst (λ (r : RunState). RunsTo k r step new) began runs)) j early halts

pub found_not : (k : ℕ) (p : Packed) (old new : RunState) (step : Step) → old ≡ begun p → RunsTo k old step new → (step ≡ Halts k → ⊥) → HaltsAt (entry_of p) k → ⊥
found_not k p old new step began runs other halts =
    runs_not k (begun p) new step (subst (λ (r : RunState). RunsTo k r step new) began runs) other halts

-- a configuration at the last time of a run is that on which it halts
stands_last : (m : Machine) (k steps : ℕ) (c : Config) → after m steps ≡ Some c → k ≡ steps + 1 → HaltsAt m k → HaltsOn m k c.state (symbol_read c.tape)
stands_last m k steps c at count halts =
    let last : halts.last ≡ steps = omega (arith, halts.count) in
    let same : Some halts.at ≡ Some c = sym halts.is ∙ (ap (after m) last ∙ at) in
    let config : halts.at ≡ c = cc in
    record {
      halts = halts;
      state = ap (λ (d : Config). d.state) config;
      symbol = ap (λ (d : Config). symbol_read d.tape) config;
    }

-- and gives its score
score_last : (m : Machine) (k steps : ℕ) (c : Config) → after m steps ≡ Some c → k ≡ steps + 1 → score_of c ≡ score_at m k
score_last m k steps c at count =
    let next_time : k ≡ suc steps = omega arith in
    sym (ap (score_at m) next_time ∙ ap score_where at)

-- so where a run halts it stands where its score can be told
pub score_on : (k count : ℕ) (p : Packed) (old new : RunState) (step : Step) → old ≡ begun p → RunsTo k old step new → step ≡ Halts count → score_of new.config ≡ score_at (entry_of p) count
score_on k count p old new step began runs is =
    let halts = subst (λ (s : Step). RunsTo k (begun p) s new) is (subst (λ (r : RunState). RunsTo k r step new) began runs) in
    let at : after (entry_of p) new.steps ≡ Some new.config = subst (λ (t : Packed). after (entry_of t) new.steps ≡ Some new.config) halts.0.table halts.0.stands.at in
    score_last (entry_of p) count new.steps new.config at halts.1.last

-- so where a run halts in k steps it stands on its halting pair
pub halts_on : (k : ℕ) (p : Packed) (old new : RunState) (step : Step) → old ≡ begun p → RunsTo k old step new → step ≡ Halts k → HaltsOn (entry_of p) k new.config.state (symbol_read new.config.tape)
halts_on k p old new step began runs is =
    let halts = subst (λ (s : Step). RunsTo k (begun p) s new) is (subst (λ (r : RunState). RunsTo k r step new) began runs) in
    let at : after (entry_of p) new.steps ≡ Some new.config = subst (λ (t : Packed). after (entry_of t) new.steps ≡ Some new.config) halts.0.table halts.0.stands.at in
    stands_last (entry_of p) k new.steps new.config at halts.1.last halts.1.halts

-- A passage is so many steps of the run: it is followed step by step, and stands wherever its window does.

-- no step
pub leads_none : (m : Machine) (state : ℕ) (w : Window) → LeavesSo m state w 0 state w.cells (pos w.at)
leads_none m state w x t head holds =
    record { tape = t; is = from_zero m _; head = head; holds = holds; others = λ y apart. refl }

-- a step more, on the cell so numbered
pub leads_more : (m : Machine) (state : ℕ) (w : Window) (steps last cells at : ℕ) (e : Entry) (now : ℕ) → LeavesSo m state w steps last cells (pos at) → at < 16
    → m last (bit_symbol (bit_at cells at)) ≡ Some e → bit_symbol (bit_at now at) ≡ e.write → ((i : ℕ) → i < 16 → i ≢ at → bit_at now i ≡ bit_at cells i)
    → LeavesSo m state w (steps + 1) e.next.0 now (moved_head (pos at) e.dir)
leads_more m state w steps last cells at e now leads inside entry here others x t head holds =
    record {
      tape = moved (written u e.write) e.dir;
      is = ap (λ n. from m n (record { state = state; tape = t })) (add-one steps) ∙ (next_is m steps _ _ l.is ∙ step_is m (record { state = last; tape = u }) (bit_symbol (bit_at cells at)) e (moved (written u e.write) e.dir) (sym read) entry refl);
      head = ap (λ h. moved_head h e.dir) l.head ∙ there e.dir;
      holds = λ i less. by_place (x +ℤ pos i) u.head
          (λ same. let is : i ≡ at = omega (arith, ints, same, l.head) in cell_same u.ones u.head e.write (x +ℤ pos i) same ∙ sym here ∙ ap (λ n. bit_symbol (bit_at now n)) (sym is))
          (λ apart. cell_other u.ones u.head e.write (x +ℤ pos i) apart ∙ l.holds i less ∙ ap bit_symbol (sym (others i less (λ is. apart (ap (λ n. x +ℤ pos n) is ∙ sym l.head)))));
      others = λ y apart. cell_other u.ones u.head e.write y (λ same. apart at inside (same ∙ l.head)) ∙ l.others y apart;
    }
  where
    l : LeavesCells m x t state steps last cells (pos at)
    l = leads x t head holds

    u : Tape
    u = l.tape

    read : symbol_read u ≡ bit_symbol (bit_at cells at)
    read = ap (cell_of u.ones) l.head ∙ l.holds at inside

    there : (d : Dir) → moved_head (x +ℤ pos at) d ≡ x +ℤ moved_head (pos at) d
    there L = omega (arith, ints)
    there R = omega (arith, ints)

-- what holds at each of sixteen places, and at any other, holds
by_window : {P : Type 0} (x y : ℤ) → ((i : ℕ) → i < 16 → y ≡ x +ℤ pos i → P) → (((i : ℕ) → i < 16 → y ≡ x +ℤ pos i → ⊥) → P) → P
by_window x y on off =
    by_lt_z y x
    (λ before. off (λ i less is. absurd (omega (arith, ints, before, is))))
    (λ after. let n = unsigned_abs (y -ℤ x) in
    elim (cases_lt n 16) [
      | inl near ↦ on n near (omega (arith, ints, after))
      | inr far ↦ off (λ i less is. absurd (omega (arith, ints, far, is, less)))
    ])

-- a run goes through a window as its passage says
pub stands_crossed : (r : RunState) (w : Window) (p : Passage) (t : Tape) → OnRun r → HoldsCells r.config.tape.ones (r.config.tape.head -ℤ pos w.at) w.cells → TellsPassage (entry_of r.table) r.config.state w p
    → Crosses w.at p.cells p.side r.config.tape t → r.steps + p.steps ≤ run_step_limit → OnRun (record { table = r.table; steps = r.steps + p.steps; config = record { state = p.state.0; tape = t } })
stands_crossed r w p t stands holds passes crosses limit = record {
  is_table = stands.is_table;
  at = later;
  within = states_within r.table.states (entry_of r.table) (table_machine r.table stands.is_table) (r.steps + p.steps) start _ (omega (arith, stands.is_table.some)) later;
  limit = limit;
}
  where
    x : ℤ
    x = r.config.tape.head -ℤ pos w.at

    l : LeavesCells (entry_of r.table) x r.config.tape r.config.state p.steps p.state.0 p.cells (beyond p.side)
    l = passes.leads x r.config.tape (omega (arith, ints)) holds

    from_left : (d : Dir) → x +ℤ beyond d ≡ place_beyond d x
    from_left L = omega (arith, ints)
    from_left R = omega (arith, ints)

    same : l.tape ≡ t
    same = same_tape l.tape t (l.head ∙ from_left p.side ∙ sym crosses.head)
        (same_ones l.tape.ones t.ones (λ y. by_window x y
        (λ i less is. ap (cell_of l.tape.ones) is ∙ l.holds i less ∙ sym (ap (cell_of t.ones) is ∙ crosses.holds i less))
        (λ apart. l.others y apart ∙ sym (crosses.others y apart))))

    later : after (entry_of r.table) (r.steps + p.steps) ≡ Some (record { state = p.state.0; tape = t })
    later = from_add (entry_of r.table) r.steps p.steps start r.config stands.at ∙ l.is ∙ ap (λ (v : Tape). Some (record { state = p.state.0; tape = v })) same

-- on its way it stays within the limit
pub may_cross : (r : RunState) (k at : ℕ) (d : Dir) → OnRun r → r.steps < k → k ≤ window_step_limit → at < 16 → IsWithinLimit (last_place d (r.config.tape.head -ℤ pos at))
may_cross r k at L stands onward limit inside =
    let reach = head_reach (entry_of r.table) r.steps start r.config stands.at in
    record { low = omega (arith, ints, reach.0, onward, limit, inside); high = omega (arith, ints, reach.1, onward, limit, inside) }
may_cross r k at R stands onward limit inside =
    let reach = head_reach (entry_of r.table) r.steps start r.config stands.at in
    record { low = omega (arith, ints, reach.0, onward, limit, inside); high = omega (arith, ints, reach.1, onward, limit, inside) }

-- A sweep of the tape, by an entry that keeps its state, is as many steps of the run.

-- for as many moves as steps are left, the head stays within the limit
pub may_sweep : (r : RunState) (k : ℕ) → OnRun r → r.steps < k → k ≤ run_step_limit → MaySweep (k - r.steps) r.config.tape
may_sweep r k stands onward limit =
    let reach = head_reach (entry_of r.table) r.steps start r.config stands.at in
    record {
      some = omega (arith, onward);
      left = record { low = omega (arith, ints, reach.0, onward, limit); high = omega (arith, ints, reach.1, onward, limit) };
      right = record { low = omega (arith, ints, reach.0, onward, limit); high = omega (arith, ints, reach.1, onward, limit) };
    }

-- so many steps later, in the same state, on this tape
abbrev pub later : RunState → ℕ → Tape → RunState
later r i t = record { table = r.table; steps = r.steps + i; config = record { state = r.config.state; tape = t } }

-- each cell of a sweep is a step
stands_on_way : (r : RunState) (e : Entry) (count : ℕ) (t : Tape) → OnRun r → entry_of r.table r.config.state (symbol_read r.config.tape) ≡ Some e → e.next.0 ≡ r.config.state
    → Sweeps e.dir e.write r.config.tape count t → r.steps + count ≤ run_step_limit
    → (i : ℕ) → i ≤ count → OnRun (later r i (swept e.dir e.write r.config.tape i))
unfolding swept
stands_on_way r e count t stands entry stays sweeps limit zero within =
    subst (λ n. OnRun (record { table = r.table; steps = n; config = r.config })) (let none : r.steps ≡ r.steps + 0 = omega arith in none) stands
stands_on_way r e count t stands entry stays sweeps limit (suc i) within =
    let way = swept e.dir e.write r.config.tape i in
    let before : OnRun (later r i way) = stands_on_way r e count t stands entry stays sweeps limit i (omega (arith, within)) in
    let read : symbol_read r.config.tape ≡ symbol_read way = sym (sweeps.alike i (omega (arith, within))) in
    let room : r.steps + i < run_step_limit = omega (arith, within, limit) in
    let step : next (entry_of r.table) (record { state = r.config.state; tape = way }) ≡ Some (record { state = e.next.0; tape = moved (written way e.write) e.dir }) =
    step_is (entry_of r.table) (record { state = r.config.state; tape = way }) (symbol_read r.config.tape) e (moved (written way e.write) e.dir) read entry refl
    in
    let stood = stands_next (later r i way) (record { state = e.next.0; tape = moved (written way e.write) e.dir }) before room step in
    let count_on : r.steps + i + 1 ≡ r.steps + suc i = omega arith in
    subst (λ n. OnRun (record { table = r.table; steps = n; config = record { state = r.config.state; tape = moved (written way e.write) e.dir } })) count_on
    (subst (λ q. OnRun (record { table = r.table; steps = r.steps + i + 1; config = record { state = q; tape = moved (written way e.write) e.dir } })) stays stood)

pub stands_swept : (r : RunState) (e : Entry) (count : ℕ) (t : Tape) → OnRun r → entry_of r.table r.config.state (symbol_read r.config.tape) ≡ Some e → e.next.0 ≡ r.config.state
    → Sweeps e.dir e.write r.config.tape count t → r.steps + count ≤ run_step_limit → OnRun (later r count t)
stands_swept r e count t stands entry stays sweeps limit =
    subst (λ u. OnRun (later r count u)) (sym sweeps.after) (stands_on_way r e count t stands entry stays sweeps limit count (omega arith))
