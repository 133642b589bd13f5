-- A table whose run comes to its states in their order, and moves to the right first, is its own normal form.
use Rattle.std.proofs.Common.{◌≡◌, ℕ, zero, suc, ◌+◌, ◌-◌, ◌<◌, ◌≤◌, Bool, false, cond, Option, Some, None, sym, ◌∙◌, ap, subst, refl, inl, inr, arith}
use Rattle.std.proofs.lemmas.Bool.{cases_lt}
use Rattle.std.proofs.lemmas.Option.{same_Some}
use Rattle.machine_text.specs.declared.table.Sym.{Sym}
use Rattle.machine_text.specs.declared.table.Sym.TheVariants.{Zero}
use Rattle.machine_text.specs.declared.table.Entry.{Entry}
use Rattle.machine_text.specs.Terms.{Packed, IsTable, entry_of}
use Rattle.machine_text.proofs.Tables.{same_table}
use Rattle.law_turing.specs.Terms.{Machine, mirrored, Config, after}
use Rattle.law_turing.proofs.Renaming.{Carried}
use Rattle.law_turing.proofs.RunLaws.{Alike, alike_some}
use Rattle.cmd_lines.specs.Listed.{StaysBelow, IsInRunOrder, named_entry, IsRenamed, moves_left, facing_right, IsNormalForm, IsInNormalForm}
use Rattle.cmd_lines.proofs.ChangedTables.{alike_back, alike_times, stays_below}

-- names that rise from a number on, and not below it, are no less than what they name
rises : (n : ℕ) (name : ℕ → ℕ) → ((q : ℕ) → n ≤ q → n ≤ name q) → ((p q : ℕ) → n ≤ p → p < q → name p < name q) → (k : ℕ) → n + k ≤ name (n + k)
rises n name high rising zero = let least : n ≤ name (n + 0) = high (n + 0) (omega arith) in omega arith
rises n name high rising (suc k) =
    let before : n + k ≤ name (n + k) = rises n name high rising k in
    let more : name (n + k) < name (n + suc k) = rising (n + k) (n + suc k) (omega arith) (omega arith) in
    omega arith

rises_at : (n : ℕ) (name : ℕ → ℕ) → ((q : ℕ) → n ≤ q → n ≤ name q) → ((p q : ℕ) → n ≤ p → p < q → name p < name q) → (q k : ℕ) → n + k ≡ q → q ≤ name q
rises_at n name high rising q k is = subst (λ x. x ≤ name x) is (rises n name high rising k)

named_alike : (name : ℕ → ℕ) → ((q : ℕ) → name q ≡ q) → (o : Option Entry) → named_entry name o ≡ o
named_alike name same None = refl
named_alike name same (Some e) = ap (λ q. Some (record { write = e.write; dir = e.dir; next = record { 0 = q } })) (same e.next.0)

module _ (m new : Machine) (steps n k : ℕ) (r : IsRenamed k m new) (old_order : IsInRunOrder m steps n) (order : IsInRunOrder new steps k) where
  there : (i : ℕ) (c : Config) → after m i ≡ Some c → (d : Config) × (after new i ≡ Some d) × (d.state ≡ r.name c.state)
  there i c is =
      let (d, at, like) = alike_some (Carried r.name (λ x. x)) (after new i) c (subst (λ o. Alike (Carried r.name (λ x. x)) o (after new i)) is (alike_times r.name m new r.entries r.first i)) in
      (d, at, like.state)

  back_there : (i : ℕ) (d : Config) → after new i ≡ Some d → (c : Config) × (after m i ≡ Some c) × (d.state ≡ r.name c.state)
  back_there i d is =
      let (c, at, like) = alike_back (Carried r.name (λ x. x)) (after m i) d (subst (Alike (Carried r.name (λ x. x)) (after m i)) is (alike_times r.name m new r.entries r.first i)) in
      (c, at, like.state)

  -- a name that is kept by the names is its state
  kept_once : (q : ℕ) → r.name (r.name q) ≡ r.name q → r.name q ≡ q
  kept_once q is = sym (r.old_of_name (r.name q)) ∙ (ap r.old is ∙ r.old_of_name q)

  -- the next state that the run comes to keeps its name, where those before do
  kept_next : (q : ℕ) → q < n → ((p : ℕ) → p < q → r.name p ≡ p) → r.name q ≡ q
  kept_next q within before =
      let c = old_order.each q within in
      let (d, at, state) = there c.time c.at c.is in
      let is : d.state ≡ r.name q = state ∙ ap r.name c.state in
      let stays : StaysBelow new c.time q = stays_below r.name m new r.entries r.first c.time q (λ p less. subst (λ x. x < q) (sym (before p less)) less) c.before in
      let bound = c.within in
      let high : d.state < k = order.only c.time d (omega arith) at in
      elim (cases_lt (r.name q) q) [
        | inl less ↦ kept_once q (before (r.name q) less)
        | inr more ↦
            let e = order.each q (omega arith) in
            let e_state = e.state in
            elim (cases_lt e.time c.time) [
              | inl early ↦ let low : e.at.state < q = stays e.time e.at early e.is in absurd (omega arith)
              | inr late ↦ elim (cases_lt c.time e.time) [
                | inl sooner ↦ let low : d.state < q = e.before c.time d sooner at in absurd (omega arith)
                | inr later ↦
                    let same : e.time ≡ c.time = omega arith in
                    let e_at : after new c.time ≡ Some e.at = subst (λ i. after new i ≡ Some e.at) same e.is in
                    let one : d ≡ e.at = same_Some d e.at (sym at ∙ e_at) in
                    sym is ∙ (ap (λ (x : Config). x.state) one ∙ e_state)
              ]
            ]
      ]

  kept : (b q : ℕ) → q < b → b ≤ n → r.name q ≡ q
  kept zero q below within = absurd (omega arith)
  kept (suc b) q below within = elim (cases_lt q b) [
    | inl less ↦ kept b q less (omega arith)
    | inr more ↦ kept_next q (omega arith) (λ p less. kept b p (omega arith) (omega arith))
  ]

  -- so the run of the renamed machine comes to as many states
  as_many : n ≤ k
  as_many = elim (cases_lt k n) [
    | inl less ↦
        let c = old_order.each k less in
        let (d, at, state) = there c.time c.at c.is in
        let bound = c.within in
        let high : d.state < k = order.only c.time d (omega arith) at in
        let is : d.state ≡ k = state ∙ (ap r.name c.state ∙ kept n k less (omega arith)) in
        absurd (omega arith)
    | inr more ↦ more
  ]

  no_more : k ≤ n
  no_more = elim (cases_lt n k) [
    | inl less ↦
        let e = order.each n less in
        let (c, at, state) = back_there e.time e.at e.is in
        let bound = e.within in
        let low : c.state < n = old_order.only e.time c (omega arith) at in
        let is : n ≡ c.state = sym e.state ∙ (state ∙ kept n c.state low (omega arith)) in
        absurd (omega arith)
    | inr more ↦ more
  ]

  high_names : (q : ℕ) → n ≤ q → n ≤ r.name q
  high_names q past = elim (cases_lt (r.name q) n) [
    | inl less ↦ let is : r.name q ≡ q = kept_once q (kept n (r.name q) less (omega arith)) in absurd (omega arith)
    | inr more ↦ more
  ]

  high_olds : (q : ℕ) → n ≤ q → n ≤ r.old q
  high_olds q past = elim (cases_lt (r.old q) n) [
    | inl less ↦ let is : q ≡ r.old q = sym (r.name_of_old q) ∙ kept n (r.old q) less (omega arith) in absurd (omega arith)
    | inr more ↦ more
  ]

  rising_names : (p q : ℕ) → n ≤ p → p < q → r.name p < r.name q
  rising_names p q past less =
      let high_p = high_names p past in
      let high_q = high_names q (omega arith) in
      let most = no_more in
      r.others p q less (omega arith) (omega arith)

  rising_olds : (p q : ℕ) → n ≤ p → p < q → r.old p < r.old q
  rising_olds p q past less = elim (cases_lt (r.old p) (r.old q)) [
    | inl below ↦ below
    | inr above ↦ elim (cases_lt (r.old q) (r.old p)) [
      | inl under ↦
          let turned_round : r.name (r.old q) < r.name (r.old p) = rising_names (r.old q) (r.old p) (high_olds q (omega arith)) under in
          let one = r.name_of_old p in
          let two = r.name_of_old q in
          absurd (omega arith)
      | inr over ↦
          let same : r.old p ≡ r.old q = omega arith in
          let is : p ≡ q = sym (r.name_of_old p) ∙ (ap r.name same ∙ r.name_of_old q) in
          absurd (omega arith)
    ]
  ]

  pub all_kept : (q : ℕ) → r.name q ≡ q
  all_kept q = elim (cases_lt q n) [
    | inl less ↦ kept n q less (omega arith)
    | inr past ↦
        let up : q ≤ r.name q = rises_at n r.name high_names rising_names q (q - n) (omega arith) in
        let high = high_names q past in
        let down : r.name q ≤ r.old (r.name q) = rises_at n r.old high_olds rising_olds (r.name q) (r.name q - n) (omega arith) in
        let back = r.old_of_name q in
        omega arith
  ]

  pub same_machine : (q : ℕ) (s : Sym) → new q s ≡ m q s
  same_machine q s = ap (λ p. new p s) (sym (all_kept q)) ∙ (r.entries q s ∙ named_alike r.name all_kept (m q s))

pub unchanged : (steps : ℕ) (t new : Packed) → IsTable t → IsTable new → IsNormalForm steps t new → IsInNormalForm steps t → new ≡ t
unchanged steps t new is_table is_new form already =
    let same : (left : Bool) → left ≡ false → cond left (mirrored (entry_of t)) (entry_of t) ≡ entry_of t = λ left is. ap (λ b. cond b (mirrored (entry_of t)) (entry_of t)) is in
    let straight : facing_right (entry_of t) ≡ entry_of t = same (moves_left (entry_of t 0 Zero)) already.right in
    let renamed : IsRenamed form.named (entry_of t) (entry_of new) = subst (λ (m : Machine). IsRenamed form.named m (entry_of new)) straight form.renamed in
    same_table new t is_new is_table form.states (same_machine (entry_of t) (entry_of new) steps already.named form.named renamed already.in_order form.in_order)
