-- Records of a trunk and of parts behind it, from tables that it leaves open, are held together.
use Rattle.std.proofs.Common.{◌≡◌, ◌≢◌, ℕ, true, false, List, [], ◌∷◌, ◌++◌, Some, None, option_map, inl, inr, ◌⊎◌, ◌↔◌, refl, sym, ◌∙◌, ap, subst, append_assoc, append-nil, suc, Option, arith}
use Rattle.std.proofs.lemmas.List.Elements.{All-append}
use Rattle.std.specs.List.{Contains, AllPairs}
use Rattle.machine_text.specs.Terms.{Packed, IsTable}
use Rattle.law_tree.specs.Terms.{Mark, Halting, IsVerdict, IsOpen, IsClosed, IsChildTable, InTableTree, Itself, OfChild, Holdout, IsComplete}
use Rattle.law_tree.proofs.TableLaws.{tree_table_child, one_table_parent}
use Rattle.cert.specs.Terms.{Claim, Recorded}
use Rattle.ledger.specs.Terms.{same_table, claim_in, mark_in, mark_of, AreFitAfter, HasScore, IsHeld, IsHoldout, Contents}
use Rattle.ledger.proofs.Ancestors.{no_way_up, last_step, tree_twice}
use Rattle.ledger.proofs.Claims.{same_is, apart, claim_past, claim_none, claim_more}
use Rattle.ledger.proofs.HeldLaws.{unmarked, mark_kept, none_before, first_or_later, first_member, later_member}
use Rattle.ledger.proofs.OpenLaws.{recorded_in_tree, open_in_tree}
use Rattle.totals.specs.Totals.{AreParts, joined_with}

-- Records from a root, the trunk's, and behind them a part's, from a table that they leave open, are held together.

-- the root, or a child of a table marked as halting
abbrev HasParent : Packed → List Recorded → Packed → Type 0
HasParent root rs t = (t ≡ root) ⊎ ((p : Packed) × (k : ℕ) × (mark_in rs p ≡ Some (Halting k)) × IsChildTable p t)

-- the claim behind a mark
pub claimed : (rs : List Recorded) (t : Packed) (m : Mark) → mark_in rs t ≡ Some m → (c : Claim) × (claim_in rs t ≡ Some c)
claimed rs t m is =
    elim (claim_in rs t) as (λ o. claim_in rs t ≡ o → (c : Claim) × (claim_in rs t ≡ Some c)) [
      | Some c ↦ λ there. (c, there)
      | None ↦ λ none. let no = ap (option_map mark_of) (sym none) ∙ is in absurd (cc)
    ] refl

-- what more records mark, where there was no record
mark_more : (rs ys : List Recorded) (t : Packed) → claim_in rs t ≡ None → mark_in (rs ++ ys) t ≡ mark_in ys t
mark_more rs ys t none = ap (option_map mark_of) (claim_more rs ys t none)

parent_kept : (root : Packed) (rs ys : List Recorded) (t : Packed) → HasParent root rs t → HasParent root (rs ++ ys) t
parent_kept root rs ys t h = elim h [ inl e ↦ inl e | inr w ↦ inr (w.0, w.1, mark_kept rs ys w.0 (Halting w.1) w.2, w.3) ]

-- a recorded table is the root, or the child of a recorded one
parent_after : (root : Packed) (earlier rs : List Recorded) (t : Packed) (c : Claim) → AreFitAfter root earlier rs → claim_in rs t ≡ Some c → HasParent root (earlier ++ rs) t
parent_after root earlier [] t c fit is = let none = claim_none t in absurd (cc)
parent_after root earlier (x ∷ rs) t c fit is =
    elim (same_table x.table t) as (λ v. same_table x.table t ≡ v → HasParent root (earlier ++ (x ∷ rs)) t) [
      | true ↦ λ same. parent_kept root earlier (x ∷ rs) t (subst (λ (p : Packed). HasParent root earlier p) (same_is x.table t same) fit.0.is_open.place)
      | false ↦ λ other.
          subst (λ (l : List Recorded). HasParent root l t) (append_assoc earlier (x ∷ []) rs)
          (parent_after root (earlier ++ (x ∷ [])) rs t c fit.1 (sym (claim_past x rs t other) ∙ is))
    ] refl

-- so with a recorded table its parent is recorded, and with that all tables above it
parent_recorded : (root : Packed) (rs : List Recorded) (a t : Packed) (c : Claim) → IsTable root → IsHeld root rs → InTableTree root a → IsChildTable a t → claim_in rs t ≡ Some c
    → (d : Claim) × (claim_in rs a ≡ Some d)
parent_recorded root rs a t c is_table held inside child is = elim (parent_after root [] rs t c held.fit is) [
  | inl e ↦ absurd (no_way_up root a is_table inside (subst (IsChildTable a) e child))
  | inr w ↦
      let d = claimed rs w.0 (Halting w.1) w.2 in
      let there : InTableTree root w.0 = recorded_in_tree root rs w.0 d.0 tree_table_child held d.1 in
      let same : w.0 ≡ a = one_table_parent root w.0 a t is_table there inside w.3 child in
      (d.0, subst (λ (p : Packed). claim_in rs p ≡ Some d.0) same d.1)
]

ancestor_recorded : (root : Packed) (rs : List Recorded) (a t : Packed) (c : Claim) → IsTable root → IsHeld root rs → InTableTree root a → InTableTree a t → claim_in rs t ≡ Some c
    → (d : Claim) × (claim_in rs a ≡ Some d)
ancestor_recorded root rs a t c is_table held inside Itself is = (c, is)
ancestor_recorded root rs a t c is_table held inside (OfChild {c = b} child below) is =
    let d = ancestor_recorded root rs b t c is_table held (tree_table_child root a b inside child) below is in
    parent_recorded root rs a b d.0 is_table held inside child d.1

fit_both : (root : Packed) (earlier rs ps : List Recorded) → AreFitAfter root earlier rs → AreFitAfter root (earlier ++ rs) ps → AreFitAfter root earlier (rs ++ ps)
fit_both root earlier [] ps fit later = subst (λ (l : List Recorded). AreFitAfter root l ps) (append-nil earlier) later
fit_both root earlier (x ∷ rs) ps fit later =
    (fit.0, fit_both root (earlier ++ (x ∷ [])) rs ps fit.1 (subst (λ (l : List Recorded). AreFitAfter root l ps) (sym (append_assoc earlier (x ∷ []) rs)) later))

-- all records are of tables of a tree
abbrev AreInside : Packed → List Recorded → Type 0
AreInside r es = (q : Packed) (d : Claim) → claim_in es q ≡ Some d → InTableTree r q

none_inside : (r : Packed) → AreInside r []
none_inside r = λ q d is. let none = claim_none q in absurd (cc)

inside_more : (r : Packed) (es : List Recorded) (x : Recorded) → AreInside r es → InTableTree r x.table → AreInside r (es ++ (x ∷ []))
inside_more r es x inside here = λ q d is. elim (claim_in es q) as (λ o. claim_in es q ≡ o → InTableTree r q) [
  | Some c ↦ λ there. inside q c there
  | None ↦ λ none. elim (same_table x.table q) as (λ v. same_table x.table q ≡ v → InTableTree r q) [
    | true ↦ λ same. subst (InTableTree r) (same_is x.table q same) here
    | false ↦ λ other. let nothing = claim_more es (x ∷ []) q none ∙ (claim_past x [] q other ∙ claim_none q) in absurd (cc)
  ] refl
] refl

open_inside : (r : Packed) (es : List Recorded) (t : Packed) → AreInside r es → IsOpen r (mark_in es) t → InTableTree r t
open_inside r es t inside is_open = elim is_open.place [
  | inl e ↦ subst (InTableTree r) (sym e) Itself
  | inr w ↦ let d = claimed es w.0 (Halting w.1) w.2 in tree_table_child r w.0 t (inside w.0 d.0 d.1) w.3
]

pub part_inside : (r : Packed) (ps : List Recorded) → IsHeld r ps → AreInside r ps
part_inside r ps held = λ q d is. recorded_in_tree r ps q d tree_table_child held is

module _ (root r : Packed) (rs : List Recorded) (is_table : IsTable root) (held : IsHeld root rs) (is_open : IsOpen root (mark_in rs) r) where
  -- below an open table nothing is recorded, and it alone is open
  pub none_recorded : (t : Packed) → InTableTree r t → claim_in rs t ≡ None
  none_recorded t below = elim (claim_in rs t) as (λ o. claim_in rs t ≡ o → o ≡ None) [
    | None ↦ λ none. refl
    | Some c ↦ λ is.
        let d = ancestor_recorded root rs r t c is_table held (open_in_tree root rs r tree_table_child held is_open) below is in
        let some = d.1 in
        let none = unmarked (claim_in rs r) is_open.unmarked in
        absurd (cc)
  ] refl

  none_marked : (t : Packed) (m : Mark) → InTableTree r t → mark_in rs t ≡ Some m → ⊥
  none_marked t m below is = let none = ap (option_map mark_of) (none_recorded t below) in cc

  pub only_itself_open : (t : Packed) → InTableTree r t → IsOpen root (mark_in rs) t → t ≡ r
  only_itself_open t below opened = elim (last_step r t below) [
    | inl same ↦ sym same
    | inr w ↦
        let above : InTableTree root w.0 = tree_twice root r w.0 (open_in_tree root rs r tree_table_child held is_open) w.1 in
        elim opened.place [
          | inl e ↦ absurd (no_way_up root w.0 is_table above (subst (IsChildTable w.0) e w.2))
          | inr v ↦
              let d = claimed rs v.0 (Halting v.1) v.2 in
              let there : InTableTree root v.0 = recorded_in_tree root rs v.0 d.0 tree_table_child held d.1 in
              let same : v.0 ≡ w.0 = one_table_parent root v.0 w.0 t is_table there above v.3 w.2 in
              absurd (none_marked w.0 (Halting v.1) w.1 (subst (λ (p : Packed). mark_in rs p ≡ Some (Halting v.1)) same v.2))
        ]
  ]

  -- so what is open by the part is open by both, and what is fit there is fit behind the trunk
  open_in_part : (es : List Recorded) (t : Packed) → AreInside r es → IsOpen r (mark_in es) t → IsOpen root (mark_in (rs ++ es)) t
  open_in_part es t inside opened = record {
    unmarked = mark_more rs es t (none_recorded t (open_inside r es t inside opened)) ∙ opened.unmarked;
    place = elim opened.place [
      | inl e ↦ parent_kept root rs es t (subst (λ (p : Packed). HasParent root rs p) (sym e) is_open.place)
      | inr w ↦
          let d = claimed es w.0 (Halting w.1) w.2 in
          inr (w.0, w.1, mark_more rs es w.0 (none_recorded w.0 (inside w.0 d.0 d.1)) ∙ w.2, w.3)
    ];
  }

  fit_in_part : (es ps : List Recorded) → AreInside r es → AreFitAfter r es ps → AreFitAfter root (rs ++ es) ps
  fit_in_part es [] inside fit = tt
  fit_in_part es (x ∷ ps) inside fit = (
    record { is_open = open_in_part es x.table inside fit.0.is_open; certified = fit.0.certified },
    subst (λ (l : List Recorded). AreFitAfter root l ps) (sym (append_assoc rs es (x ∷ [])))
        (fit_in_part (es ++ (x ∷ [])) ps (inside_more r es x inside (open_inside r es x.table inside fit.0.is_open)) fit.1),
  )

  module _ (ps : List Recorded) (part_held : IsHeld r ps) where
    pub both_held : IsHeld root (rs ++ ps)
    both_held = record {
      fit = fit_both root [] rs ps held.fit (subst (λ (l : List Recorded). AreFitAfter root l ps) (append-nil rs) (fit_in_part [] ps (none_inside r) part_held.fit));
      scored = All-append HasScore rs ps held.scored part_held.scored;
    }

    -- no table is recorded by both, and recorded is what either records
    pub one_marks : (t : Packed) → (mark_in rs t ≡ None) ⊎ (mark_in ps t ≡ None)
    one_marks t = elim (claim_in ps t) as (λ o. claim_in ps t ≡ o → (mark_in rs t ≡ None) ⊎ (mark_in ps t ≡ None)) [
      | None ↦ λ none. inr (ap (option_map mark_of) none)
      | Some c ↦ λ is. inl (ap (option_map mark_of) (none_recorded t (part_inside r ps part_held t c is)))
    ] refl

    pub never_both : (t : Packed) (m n : Mark) → mark_in rs t ≡ Some m → mark_in ps t ≡ Some n → ⊥
    never_both t m n one other = elim (one_marks t) [ inl none ↦ cc | inr none ↦ cc ]

    pub both_marks : (t : Packed) (m : Mark) → (mark_in (rs ++ ps) t ≡ Some m) ↔ ((mark_in rs t ≡ Some m) ⊎ (mark_in ps t ≡ Some m))
    both_marks t m = (
      λ is. elim (claim_in rs t) as (λ o. claim_in rs t ≡ o → (mark_in rs t ≡ Some m) ⊎ (mark_in ps t ≡ Some m)) [
        | None ↦ λ none. inr (sym (mark_more rs ps t none) ∙ is)
        | Some c ↦ λ there.
            let marked : mark_in rs t ≡ Some (mark_of c) = ap (option_map mark_of) there in
            let kept = mark_kept rs ps t (mark_of c) marked in
            inl (marked ∙ sym kept ∙ is)
      ] refl,
      λ h. elim h [
        | inl before ↦ mark_kept rs ps t m before
        | inr later ↦
            let d = claimed ps t m later in
            mark_more rs ps t (none_recorded t (part_inside r ps part_held t d.0 d.1)) ∙ later
      ],
    )

    pub one_opens : (t : Packed) → IsOpen root (mark_in rs) t → IsOpen r (mark_in ps) t → t ≡ r
    one_opens t opened by_part = only_itself_open t (open_in_tree r ps t tree_table_child part_held by_part) opened

    -- a table that is open by the trunk, but not the part's root, is not recorded by the part
    not_by_part : (t : Packed) → IsOpen root (mark_in rs) t → (t ≢ r) → mark_in ps t ≡ None
    not_by_part t opened other = elim (claim_in ps t) as (λ o. claim_in ps t ≡ o → mark_in ps t ≡ None) [
      | None ↦ λ none. ap (option_map mark_of) none
      | Some c ↦ λ is. absurd (other (only_itself_open t (part_inside r ps part_held t c is) opened))
    ] refl

    -- open by both is what the trunk leaves open, but for the part's root, and what the part does
    pub both_open : (t : Packed) → IsOpen root (mark_in (rs ++ ps)) t ↔ ((IsOpen root (mark_in rs) t × (t ≢ r)) ⊎ IsOpen r (mark_in ps) t)
    both_open t = (
      λ opened.
          let none = none_before rs ps t (unmarked (claim_in (rs ++ ps) t) opened.unmarked) in
          let by_trunk : mark_in rs t ≡ None = ap (option_map mark_of) none.0 in
          let by_part : mark_in ps t ≡ None = ap (option_map mark_of) none.1 in
          elim (same_table t r) as (λ v. same_table t r ≡ v → (IsOpen root (mark_in rs) t × (t ≢ r)) ⊎ IsOpen r (mark_in ps) t) [
            | true ↦ λ same. inr (record { unmarked = by_part; place = inl (same_is t r same) })
            | false ↦ λ other. elim opened.place [
              | inl e ↦ inl (record { unmarked = by_trunk; place = inl e }, apart t r other)
              | inr w ↦ elim ((both_marks w.0 (Halting w.1)).0 w.2) [
                | inl before ↦ inl (record { unmarked = by_trunk; place = inr (w.0, w.1, before, w.3) }, apart t r other)
                | inr later ↦ inr (record { unmarked = by_part; place = inr (w.0, w.1, later, w.3) })
              ]
            ]
          ] refl,
      λ h. elim h [
        | inl w ↦ record {
          unmarked = mark_more rs ps t (unmarked (claim_in rs t) w.0.unmarked) ∙ not_by_part t w.0 w.1;
          place = parent_kept root rs ps t w.0.place;
        }
        | inr by_part ↦ open_in_part ps t (part_inside r ps part_held) by_part
      ],
    )

    -- a table of the part's tree is marked by both as by the part
    mark_within : (t : Packed) → InTableTree r t → mark_in (rs ++ ps) t ≡ mark_in ps t
    mark_within t below = mark_more rs ps t (none_recorded t below)

    open_within : (t : Packed) → InTableTree r t → IsOpen root (mark_in (rs ++ ps)) t ↔ IsOpen r (mark_in ps) t
    open_within t below = (
      λ opened. elim ((both_open t).0 opened) [
        | inl w ↦ absurd (w.1 (only_itself_open t below w.0))
        | inr by_part ↦ by_part
      ],
      λ by_part. (both_open t).1 (inr by_part),
    )

    pub closed_within : (t : Packed) → InTableTree r t → IsClosed root (mark_in (rs ++ ps)) t ↔ IsClosed r (mark_in ps) t
    closed_within t below = (
      λ closed. record {
        verdict = subst IsVerdict (mark_within t below) closed.verdict;
        none_open = λ q inside opened. closed.none_open q inside ((open_within q (tree_twice r t q below inside)).1 opened);
        no_holdout = λ q inside held_out. closed.no_holdout q inside (mark_within q (tree_twice r t q below inside) ∙ held_out);
      },
      λ closed. record {
        verdict = subst IsVerdict (sym (mark_within t below)) closed.verdict;
        none_open = λ q inside opened. closed.none_open q inside ((open_within q (tree_twice r t q below inside)).0 opened);
        no_holdout = λ q inside held_out. closed.no_holdout q inside (sym (mark_within q (tree_twice r t q below inside)) ∙ held_out);
      },
    )

-- The same of a trunk and any number of parts.
no_part : {p : Contents} → Contains [] p → ⊥
no_part (k, below, is) = omega arith

-- the first of the parts, and the others behind it
first_root : (p : Contents) (parts : List Contents) (q : Contents) → AllPairs (λ (a b : Contents). a.root ≢ b.root) (p ∷ parts) → Contains parts q → p.root ≢ q.root
first_root p parts q once (k, below, is) = subst (λ (c : Contents). p.root ≢ c.root) is (once 0 (suc k) q (omega arith) (omega arith))

-- two marks of which either says what the other says
same_mark : (a b : Option Mark) → ((m : Mark) → (a ≡ Some m) ↔ (b ≡ Some m)) → a ≡ b
same_mark None None same = refl
same_mark None (Some n) same = let is = (same n).1 refl in absurd (cc)
same_mark (Some m) b same = sym ((same m).0 refl)

module _ (root : Packed) (is_table : IsTable root) where
  other_parts : (rs : List Recorded) (p : Contents) (parts : List Contents) → IsHeld root rs → AreParts root rs (p ∷ parts) → AreParts root (rs ++ p.records) parts
  other_parts rs p parts held are = record {
    each = λ q at.
        let first = are.each p (first_member p p parts refl) in
        let other = are.each q (later_member p parts q at) in
        record {
          is_open = (both_open root p.root rs is_table held first.is_open p.records first.held q.root).1 (inl (other.is_open, λ (e : q.root ≡ p.root). first_root p parts q are.once at (sym e)));
          held = other.held;
        };
    once = λ i j d less below. are.once (suc i) (suc j) d (omega arith) (omega arith);
  }

  held_first : (rs : List Recorded) (p : Contents) (parts : List Contents) → IsHeld root rs → AreParts root rs (p ∷ parts) → IsHeld root (rs ++ p.records)
  held_first rs p parts held are = let first = are.each p (first_member p p parts refl) in both_held root p.root rs is_table held first.is_open p.records first.held

  -- what the first leaves open is the root of no other
  not_another : (rs : List Recorded) (p : Contents) (parts : List Contents) (q : Contents) (t : Packed) → IsHeld root rs → AreParts root rs (p ∷ parts) → Contains parts q
      → IsOpen p.root (mark_in p.records) t → t ≢ q.root
  not_another rs p parts q t held are at opened = λ (e : t ≡ q.root).
      let first = are.each p (first_member p p parts refl) in
      let other = are.each q (later_member p parts q at) in
      let same : t ≡ p.root = one_opens root p.root rs is_table held first.is_open p.records first.held t (subst (λ (x : Packed). IsOpen root (mark_in rs) x) (sym e) other.is_open) opened in
      first_root p parts q are.once at (sym same ∙ e)

  pub all_held : (rs : List Recorded) (parts : List Contents) → IsHeld root rs → AreParts root rs parts → IsHeld root (joined_with rs parts)
  all_held rs [] held are = held
  all_held rs (p ∷ parts) held are = all_held (rs ++ p.records) parts (held_first rs p parts held are) (other_parts rs p parts held are)

  -- recorded is what the trunk or one of the parts records
  pub all_marks : (rs : List Recorded) (parts : List Contents) (t : Packed) (m : Mark) → IsHeld root rs → AreParts root rs parts
      → (mark_in (joined_with rs parts) t ≡ Some m) ↔ ((mark_in rs t ≡ Some m) ⊎ ((p : Contents) × Contains parts p × (mark_in p.records t ≡ Some m)))
  all_marks rs [] t m held are = (λ is. inl is, λ h. elim h [ inl is ↦ is | inr w ↦ absurd (no_part w.1) ])
  all_marks rs (p ∷ parts) t m held are =
      let first = are.each p (first_member p p parts refl) in
      let one = both_marks root p.root rs is_table held first.is_open p.records first.held t m in
      let rest = all_marks (rs ++ p.records) parts t m (held_first rs p parts held are) (other_parts rs p parts held are) in (
        λ is. elim (rest.0 is) [
          | inl here ↦ elim (one.0 here) [ inl before ↦ inl before | inr by_first ↦ inr (p, first_member p p parts refl, by_first) ]
          | inr w ↦ inr (w.0, later_member p parts w.0 w.1, w.2)
        ],
        λ h. rest.1 (elim h [
          | inl before ↦ inl (one.1 (inl before))
          | inr w ↦ elim (first_or_later p parts w.0 w.1) [
            | inl same ↦ inl (one.1 (inr (subst (λ (c : Contents). mark_in c.records t ≡ Some m) (sym same) w.2)))
            | inr later ↦ inr (w.0, later, w.2)
          ]
        ]),
      )

  -- open is what the trunk leaves open and is no part's root, and what one of the parts leaves open
  pub all_open : (rs : List Recorded) (parts : List Contents) (t : Packed) → IsHeld root rs → AreParts root rs parts
      → IsOpen root (mark_in (joined_with rs parts)) t
      ↔ ((IsOpen root (mark_in rs) t × ((p : Contents) → Contains parts p → t ≢ p.root)) ⊎ ((p : Contents) × Contains parts p × IsOpen p.root (mark_in p.records) t))
  all_open rs [] t held are = (λ opened. inl (opened, λ p at. absurd (no_part at)), λ h. elim h [ inl w ↦ w.0 | inr w ↦ absurd (no_part w.1) ])
  all_open rs (p ∷ parts) t held are =
      let first = are.each p (first_member p p parts refl) in
      let one = both_open root p.root rs is_table held first.is_open p.records first.held t in
      let rest = all_open (rs ++ p.records) parts t (held_first rs p parts held are) (other_parts rs p parts held are) in (
        λ opened. elim (rest.0 opened) [
          | inl w ↦ elim (one.0 w.0) [
            | inl before ↦ inl (
              before.0,
              λ q at. elim (first_or_later p parts q at) [
                | inl same ↦ subst (λ (c : Contents). t ≢ c.root) same before.1
                | inr later ↦ w.1 q later
              ],
            )
            | inr by_first ↦ inr (p, first_member p p parts refl, by_first)
          ]
          | inr w ↦ inr (w.0, later_member p parts w.0 w.1, w.2)
        ],
        λ h. rest.1 (elim h [
          | inl w ↦ inl (one.1 (inl (w.0, w.1 p (first_member p p parts refl))), λ q at. w.1 q (later_member p parts q at))
          | inr w ↦ elim (first_or_later p parts w.0 w.1) [
            | inl same ↦ inl (
              one.1 (inr (subst (λ (c : Contents). IsOpen c.root (mark_in c.records) t) (sym same) w.2)),
              λ q at. not_another rs p parts q t held are at (subst (λ (c : Contents). IsOpen c.root (mark_in c.records) t) (sym same) w.2),
            )
            | inr later ↦ inr (w.0, later, w.2)
          ]
        ]),
      )

  pub all_complete : (rs : List Recorded) (parts : List Contents) → IsHeld root rs → AreParts root rs parts
      → ((t : Packed) → IsOpen root (mark_in rs) t → (p : Contents) × Contains parts p × (t ≡ p.root)) → ((t : Packed) → IsHoldout rs t → ⊥)
      → ((p : Contents) → Contains parts p → IsComplete p.root (mark_in p.records)) → IsComplete root (mark_in (joined_with rs parts))
  all_complete rs parts held are there none complete = record {
    none_open = λ t opened. elim ((all_open rs parts t held are).0 opened) [
      | inl w ↦ let p = there t w.0 in w.1 p.0 p.1 p.2
      | inr w ↦ (complete w.0 w.1).none_open t w.2
    ];
    no_holdout = λ t held_out. elim ((all_marks rs parts t Holdout held are).0 held_out) [
      | inl before ↦ none t before
      | inr w ↦ (complete w.0 w.1).no_holdout t w.2
    ];
  }

  -- in whichever order the parts come, all together say the same of each table
  pub any_order : (rs : List Recorded) (parts others : List Contents) (t : Packed) → IsHeld root rs → AreParts root rs parts → AreParts root rs others
      → ((p : Contents) → Contains parts p ↔ Contains others p) → mark_in (joined_with rs parts) t ≡ mark_in (joined_with rs others) t
  any_order rs parts others t held are also same = same_mark (mark_in (joined_with rs parts) t) (mark_in (joined_with rs others) t) (λ m. (
    λ is. (all_marks rs others t m held also).1 (elim ((all_marks rs parts t m held are).0 is) [ inl before ↦ inl before | inr w ↦ inr (w.0, (same w.0).0 w.1, w.2) ]),
    λ is. (all_marks rs parts t m held are).1 (elim ((all_marks rs others t m held also).0 is) [ inl before ↦ inl before | inr w ↦ inr (w.0, (same w.0).1 w.1, w.2) ]),
  ))

-- one part more comes last
pub joined_more : (rs : List Recorded) (parts : List Contents) (p : Contents) → joined_with rs (parts ++ (p ∷ [])) ≡ joined_with rs parts ++ p.records
joined_more rs [] p = refl
joined_more rs (q ∷ parts) p = joined_more (rs ++ q.records) parts p
