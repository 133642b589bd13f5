-- One ledger of a trunk and its parts: its lines, its place, and what an early end leaves of it.
use Rattle.std.proofs.Common.{◌≡◌, ◌≢◌, ◌≤◌, ◌<◌, ℕ, Bool, true, false, List, [], ◌∷◌, ◌++◌, length, drop, take, get_or, Option, Some, None, IfOk, OnOk, Result, Ok, Err, inl, inr, refl, sym, ap, subst, ◌∙◌, append_assoc, append-nil, length-append, arith, ◌⊎◌, IfErr}
use Rattle.std.specs.Prelude.{map, codes}
use Rattle.std.specs.Io.KnownBytes.{Appends}
use Rattle.std.specs.List.{AllPairs, Contains}
use Rattle.std.proofs.lemmas.List.{map-append, length-take, get_or-take}
use Rattle.std.proofs.lemmas.List.Elements.{All-contains}
use Rattle.text.specs.Terms.{joined}
use Rattle.machine_text.specs.Terms.{Packed, text_of}
use Rattle.cert.specs.Terms.{Recorded}
use Rattle.ledger.specs.Terms.{Contents, IsOpenOn, ledger_text, header_words, ledger_line, AreAll}
use Rattle.ledger.specs.declared.header.Format.TheVariants.{Two}
use Rattle.ledger.specs.declared.loading.Left.{Left}
use Rattle.cmd_options.specs.declared.ended.Ended.{Ended}
use Rattle.cmd_options.specs.declared.ended.Outcome.{Outcome}
use Rattle.ledger.proofs.HeldLaws.{first_member, first_or_later, later_member}
use Rattle.ledger.proofs.Feeding.{joined-append}
use Rattle.wire.specs.Terms.{grown}
use Rattle.totals.specs.Terms.{joined_with, AddGives, Collected, IsWhole}
use Rattle.totals.proofs.TrunkAndParts.{joined_more}
use Rattle.cmd_parts.specs.Join.{AreMet, Findings, HoldsTree, IsMet, IsMetAs, IsMetIn, IsReadAt, TellsAll, TellsParts, counted_part, is_silent, left_line, line_behind, record_lines, IsGathered, SaysFirst, WarnsFirst, IsSpared}
use Rattle.cmd_parts.specs.Settle.{path_within}
use Rattle.cmd_parts.specs.inside.{AddsCounted, AreAdded, CountsMore, MeetsPart, counted_records, SaysMet, AreOthers}
use Rattle.cmd_options.specs.declared.ended.Ended.TheVariants.{Stream}
use Rattle.cmd_options.specs.Terms.{PrintsNothing}
use Rattle.files.specs.Terms.{Shelf}
use Rattle.cmd_parts.specs.AtPaths.{JoinsAt, finds_at}

-- One ledger of a trunk and its parts: its lines are the trunk's, and then those of each part.
lines_both : (a b : List Recorded) → record_lines (a ++ b) ≡ record_lines a ++ record_lines b
lines_both a b = ap joined (map-append (ledger_line Two) a b) ∙ joined-append (map (ledger_line Two) a) (map (ledger_line Two) b)

-- a ledger with more lines is that of more records
ledger_more : (root : Packed) (a b : List Recorded) → ledger_text root a ++ record_lines b ≡ ledger_text root (a ++ b)
unfolding ledger_text
ledger_more root a b =
    append_assoc (header_words Two) (text_of root ++ (10 ∷ record_lines a)) (record_lines b)
    ∙ ap (λ (l : List ℕ). header_words Two ++ l) (append_assoc (text_of root) (10 ∷ record_lines a) (record_lines b)
    ∙ ap (λ (l : List ℕ). text_of root ++ (10 ∷ l)) (sym (lines_both a b)))

grown_more : (start : Option (List ℕ)) (a b c : List ℕ) → a ++ b ≡ c → grown (grown start a) b ≡ grown start c
grown_more None a b c is = refl
grown_more (Some text) a b c is = ap (λ (l : List ℕ). Some l) (append_assoc text a b ∙ ap (λ (l : List ℕ). text ++ l) is)

-- what is written stays so with a part more
text_so : (counted : Option Contents) (old new : Collected) (start before after : Option (List ℕ)) (root : Packed) (rs : List Recorded) (parts : List Contents) → AddsCounted counted old new before after
    → before ≡ grown start (ledger_text root (joined_with rs parts)) → after ≡ grown start (ledger_text root (joined_with rs (parts ++ counted_part counted)))
text_so None old new start before after root rs parts adds is =
    adds.1 ∙ (is ∙ ap (λ (l : List Contents). grown start (ledger_text root (joined_with rs l))) (sym (append-nil parts)))
text_so (Some part) old new start before after root rs parts adds is =
    let own = joined_with rs parts in
    adds.1 ∙ (ap (λ (t : Option (List ℕ)). grown t (record_lines part.records)) is
    ∙ grown_more start (ledger_text root own) (record_lines part.records) (ledger_text root (joined_with rs (parts ++ (part ∷ []))))
    (ledger_more root own part.records ∙ ap (λ (l : List Recorded). ledger_text root l) (sym (joined_more rs parts part))))

-- and so are the records that are counted
counted_so : (counted : Option Contents) (rs : List Recorded) (parts : List Contents) → joined_with rs parts ++ counted_records counted ≡ joined_with rs (parts ++ counted_part counted)
counted_so None rs parts = append-nil (joined_with rs parts) ∙ ap (λ (l : List Contents). joined_with rs l) (sym (append-nil parts))
counted_so (Some part) rs parts = sym (joined_more rs parts part)

counts_nothing : (Counted : List Recorded → Type 0) → CountsMore Counted Counted []
counts_nothing Counted rs h = subst Counted (sym (append-nil rs)) h

whole_so : (counted : Option Contents) (old new : Collected) (before after : Option (List ℕ)) (parts : List Contents) → AddsCounted counted old new before after
    → IsWhole old parts → IsWhole new (parts ++ counted_part counted)
whole_so None old new before after parts adds is =
    subst (λ (w : Collected). IsWhole w (parts ++ [])) (sym adds.0) (subst (λ (l : List Contents). IsWhole old l) (sym (append-nil parts)) is)
whole_so (Some part) old new before after parts adds is = adds.0.3 parts is

trunk_so : (counted : Option Contents) (old new : Collected) (before after : Option (List ℕ)) → AddsCounted counted old new before after → new.trunk ≡ old.trunk
trunk_so None old new before after adds = ap (λ (w : Collected). w.trunk) adds.0
trunk_so (Some part) old new before after adds = adds.0.2

-- what is said, and then more
pub appends_both : (a b c : Option (List ℕ)) (x y : List ℕ) → Appends a b x → Appends b c y → Appends a c (x ++ y)
appends_both None b c x y h k = tt
appends_both (Some p) None c x y h k = absurd h
appends_both (Some p) (Some q) None x y h k = absurd k
appends_both (Some p) (Some q) (Some r) x y h k = k ∙ (ap (λ (l : List ℕ). l ++ y) h ∙ append_assoc p x y)

pub appends_nothing : (a : Option (List ℕ)) → Appends a a []
appends_nothing None = tt
appends_nothing (Some p) = sym (append-nil p)

silent_front : (x y : List ℕ) → is_silent y ≡ true → is_silent (x ++ y) ≡ is_silent x
silent_front x [] h = ap is_silent (append-nil x)
silent_front x (byte ∷ more) h = absurd (cc)

silent_neither : (x y : List ℕ) → is_silent y ≡ false → is_silent (x ++ y) ≡ false
silent_neither [] y h = h
silent_neither (byte ∷ more) y h = refl

silent_behind : (x y : List ℕ) → is_silent x ≡ true → is_silent (x ++ y) ≡ is_silent y
silent_behind [] y h = refl
silent_behind (byte ∷ more) y h = absurd (cc)

silent_either : (x y : List ℕ) → is_silent x ≡ false → is_silent (x ++ y) ≡ false
silent_either [] y h = absurd (cc)
silent_either (byte ∷ more) y h = refl

-- all is sound where both are
pub sound_first : (a b c : Bool) (x y : List ℕ) → a ≡ is_silent x → b ≡ is_silent y → (a ≡ true → c ≡ b) → (a ≡ false → c ≡ false) → c ≡ is_silent (x ++ y)
sound_first true b c x y first second both neither = both refl ∙ (second ∙ sym (silent_behind x y (sym first)))
sound_first false b c x y first second both neither = neither refl ∙ sym (silent_either x y (sym first))

pub sound_both : (a b c : Bool) (x y : List ℕ) → a ≡ is_silent x → b ≡ is_silent y → (b ≡ true → c ≡ a) → (b ≡ false → c ≡ false) → c ≡ is_silent (x ++ y)
sound_both a true c x y first second both neither = both refl ∙ (first ∙ sym (silent_front x y (sym second)))
sound_both a false c x y first second both neither = neither refl ∙ sym (silent_neither x y (sym second))

module _ (Finds : Findings) (folder : List ℕ) where
  -- one more part is met
  met_more : (roots : List Packed) (root : Packed) (parts : List Contents) (lines said : List ℕ) (counted : Option Contents) → AreMet Finds folder roots parts lines → IsMet Finds folder root counted said
      → AreMet Finds folder (roots ++ (root ∷ [])) (parts ++ counted_part counted) (lines ++ said)
  met_more [] root parts lines said counted none met = (
    counted,
    said,
    [],
    [],
    met,
    (refl, refl),
    ap (λ (l : List Contents). l ++ counted_part counted) none.0 ∙ sym (append-nil (counted_part counted)),
    ap (λ (l : List ℕ). l ++ said) none.1 ∙ sym (append-nil said),
  )
  met_more (first ∷ roots) root parts lines said counted (one, line, others, more, is, are, all, whole) met = (
    one,
    line,
    others ++ counted_part counted,
    more ++ said,
    is,
    met_more roots root others more said counted are met,
    ap (λ (l : List Contents). l ++ counted_part counted) all ∙ append_assoc (counted_part one) others (counted_part counted),
    ap (λ (l : List ℕ). l ++ said) whole ∙ append_assoc line more said,
  )

  counted_root : (root : Packed) (part : Contents) (said : List ℕ) → IsMet Finds folder root (Some part) said → part.root ≡ root
  counted_root root part said (inl missing) = absurd (let none = missing.1 in cc)
  counted_root root part said (inr (has, size, finds, inl (loaded, left, loads, met))) = ap (λ (b : Contents). b.root) met.0 ∙ met.1
  counted_root root part said (inr (has, size, finds, inr refused)) = absurd (let none = refused.1 in cc)

  -- a part that counts is one of a root that was looked for
  counted_one : (roots : List Packed) (parts : List Contents) (lines : List ℕ) (t : Packed) → AreMet Finds folder roots parts lines → Contains (map (λ p. p.root) parts) t → Contains roots t
  counted_one [] parts lines t none at = subst (λ (l : List Contents). Contains (map (λ p. p.root) l) t) none.0 at
  counted_one (root ∷ roots) parts lines t (None, line, others, more, is, are, all, whole) at =
      later_member root roots t (counted_one roots others more t are (subst (λ (l : List Contents). Contains (map (λ p. p.root) l) t) all at))
  counted_one (root ∷ roots) parts lines t (Some part, line, others, more, is, are, all, whole) at =
      elim (first_or_later part.root (map (λ p. p.root) others) t (subst (λ (l : List Contents). Contains (map (λ p. p.root) l) t) all at)) [
        | inl same ↦ first_member root t roots (sym (counted_root root part line is) ∙ same)
        | inr later ↦ later_member root roots t (counted_one roots others more t are later)
      ]

  -- before any part
  pub none_added : {Counted : List Recorded → Type 0} (whole : Collected) (before faults : Option (List ℕ)) → IsWhole whole [] → AreAdded Finds folder [] whole.trunk whole true before before faults faults Counted Counted
  none_added {Counted} whole before faults is = record {
    parts = [];
    lines = [];
    met = (refl, refl);
    trunk_is = refl;
    whole_is = is;
    sound = refl;
    says = appends_nothing faults;
    writes = λ start h. h;
    counts = λ rs h. h;
  }

  -- one part more
  pub added_more : {Old Mid New : List Recorded → Type 0} (roots : List Packed) (root : Packed) (trunk : Contents) (old new : Collected) (a b c : Bool) (before text after faults mid new_faults : Option (List ℕ))
      → AreAdded Finds folder roots trunk old a before text faults mid Old Mid → MeetsPart (IsMet Finds folder root) b old new text after mid new_faults Mid New
      → (b ≡ true → c ≡ a) → (b ≡ false → c ≡ false) → AreAdded Finds folder (roots ++ (root ∷ [])) trunk new c before after faults new_faults Old New
  added_more {Old} {Mid} {New} roots root trunk old new a b c before text after faults mid new_faults all one both neither = record {
    parts = all.parts ++ counted_part one.counted;
    lines = all.lines ++ one.said;
    met = met_more roots root all.parts all.lines one.said one.counted all.met one.met;
    trunk_is = trunk_so one.counted old new text after one.adds ∙ all.trunk_is;
    whole_is = whole_so one.counted old new text after all.parts one.adds all.whole_is;
    sound = sound_both a b c all.lines one.said all.sound one.sound both neither;
    says = appends_both faults mid new_faults all.lines one.said all.says one.says;
    writes = λ start is. text_so one.counted old new start text after trunk.root trunk.records all.parts one.adds (all.writes start is);
    counts = λ rs h. subst New (counted_so one.counted rs all.parts) (one.counts (joined_with rs all.parts) (all.counts rs h));
  }

  -- the root that comes next has no part yet
  pub not_added : {Old New : List Recorded → Type 0} (roots : List Packed) (i : ℕ) (root : Packed) (trunk : Contents) (whole : Collected) (a : Bool) (before after faults new_faults : Option (List ℕ))
      → AllPairs (λ (x y : Packed). x ≢ y) roots → i < length roots → root ≡ get_or roots i root → AreAdded Finds folder (take i roots) trunk whole a before after faults new_faults Old New
      → Contains whole.roots root → ⊥
  not_added {Old} {New} roots i root trunk whole a before after faults new_faults apart below is all at =
      let (k, within, same) = counted_one (take i roots) all.parts all.lines root all.met (subst (λ (l : List Packed). Contains l root) all.whole_is.roots_are at) in
      let size = length-take i roots in
      let less : k < i = omega arith in
      apart k i root less below (sym (get_or-take i roots k root less) ∙ (same ∙ is))

-- what follows of a success besides
pub both_ok : {T E A : Type 0} (B C : Type 0) (r : Result T E) → A → OnOk r B → OnOk r C → OnOk r (A × B × C)
both_ok B C (Ok t) a b c = (a, b, c)
both_ok B C (Err e) a b c = tt

-- what is met so is met otherwise
pub met_so : (Old New : List Recorded → Type 0) (A B : Option Contents → List ℕ → Type 0) (r : Result Bool Ended) (old new : Collected) (before after faults new_faults : Option (List ℕ)) → ((counted : Option Contents) (said : List ℕ) → A counted said → B counted said)
    → IfOk r (λ sound. MeetsPart A sound old new before after faults new_faults Old New) → IfOk r (λ sound. MeetsPart B sound old new before after faults new_faults Old New)
met_so Old New A B (Ok sound) old new before after faults new_faults f h = record { counted = h.counted; said = h.said; met = f h.counted h.said h.met; sound = h.sound; says = h.says; adds = h.adds; counts = h.counts }
met_so Old New A B (Err e) old new before after faults new_faults f h = tt

loud : (path what : List ℕ) → is_silent (line_behind path what) ≡ false
loud [] what = refl
loud (byte ∷ more) what = refl

-- nothing counts, and that is said
pub unmet : (Counted : List Recorded → Type 0) (A : Option Contents → List ℕ → Type 0) (r : Result Bool Ended) (whole : Collected) (text faults new_faults : Option (List ℕ)) (path what : List ℕ) → A None (line_behind path what)
    → IfOk r (λ sound. (sound ≡ false) × Appends faults new_faults (line_behind path what)) → IfOk r (λ sound. MeetsPart A sound whole whole text text faults new_faults Counted Counted)
unmet Counted A (Ok sound) whole text faults new_faults path what met h = record {
  counted = None;
  said = line_behind path what;
  met = met;
  sound = h.0 ∙ sym (loud path what);
  says = h.1;
  adds = (refl, refl);
  counts = counts_nothing Counted;
}
unmet Counted A (Err e) whole text faults new_faults path what met h = tt

-- a part that is loaded counts
pub met_loaded : (Old New : List Recorded → Type 0) (r : Result Bool Ended) (old new : Collected) (before after faults new_faults : Option (List ℕ)) (part : Contents) (left : Left) (path : List ℕ) (root : Packed) → part.root ≡ root
    → AddGives old part (Ok tt) new × (after ≡ grown before (record_lines part.records)) × CountsMore Old New part.records → IfOk r (λ sound. (sound ≡ is_silent (left_line path left)) × Appends faults new_faults (left_line path left))
    → IfOk r (λ sound. MeetsPart (IsMetAs part left path root) sound old new before after faults new_faults Old New)
met_loaded Old New (Ok sound) old new before after faults new_faults part left path root same adds h = record {
  counted = Some part;
  said = left_line path left;
  met = (refl, same, refl);
  sound = h.0;
  says = h.1;
  adds = (adds.0, adds.1);
  counts = adds.2;
}
met_loaded Old New (Err e) old new before after faults new_faults part left path root same adds h = tt

module _ (Finds : Findings) (folder : List ℕ) where
  pub met_there : (root : Packed) (path here : List ℕ) (has : Option (List ℕ)) (size : ℕ) → path ≡ path_within folder (text_of root) → here ≡ path_within folder (text_of root)
      → Finds path (Some (has, size)) → (counted : Option Contents) (said : List ℕ) → IsMetIn has size here root counted said → IsMet Finds folder root counted said
  met_there root path here has size is same finds counted said met = inr (
    has,
    size,
    subst (λ (p : List ℕ). Finds p (Some (has, size))) is finds,
    subst (λ (p : List ℕ). IsMetIn has size p root counted said) same met,
  )

  pub met_nothing : (root : Packed) (path here : List ℕ) → path ≡ path_within folder (text_of root) → here ≡ path_within folder (text_of root) → Finds path None
      → IsMet Finds folder root None (line_behind here (codes "missing"))
  met_nothing root path here is same finds = inl (subst (λ (p : List ℕ). Finds p None) is finds, refl, ap (λ (p : List ℕ). line_behind p (codes "missing")) same)

  -- the trunk, and then the parts
  pub gathered_so : {Old New : List Recorded → Type 0} (path here : List ℕ) (trunk first : Contents) (left : Left) (roots : List Packed) (whole : Collected) (kept sound both : Bool) (before begun after faults mid new_faults : Option (List ℕ))
      → path ≡ path_within folder (codes "trunk") → here ≡ path_within folder (codes "trunk") → IsReadAt Finds path trunk left → AreAll (IsOpenOn trunk) roots
      → (kept ≡ is_silent (left_line here left)) × Appends faults mid (left_line here left) → begun ≡ grown before (ledger_text trunk.root trunk.records) → Old trunk.records
      → first ≡ trunk → AreAdded Finds folder roots first whole sound begun after mid new_faults Old New → (kept ≡ true → both ≡ sound) → (kept ≡ false → both ≡ false)
      → IsGathered Finds folder whole both before after faults new_faults New
  gathered_so {Old} {New} path here trunk first left roots whole kept sound both before begun after faults mid new_faults is there reads are_open says begins counted same added all neither =
      let trunk_is : whole.trunk ≡ trunk = added.trunk_is ∙ same in
      let lines = left_line here left ++ added.lines in
      record {
        parts = added.parts;
        lines = lines;
        holds = subst (λ (b : Contents). HoldsTree Finds folder b added.parts lines) (sym trunk_is) (record {
          left = left;
          reads = subst (λ (p : List ℕ). IsReadAt Finds p trunk left) is reads;
          roots = roots;
          are_open = are_open;
          said = added.lines;
          are_met = added.met;
          all_lines = ap (λ (p : List ℕ). left_line p left ++ added.lines) there;
        });
        whole_is = added.whole_is;
        sound = sound_first kept sound both (left_line here left) added.lines says.0 added.sound all neither;
        says = appends_both faults mid new_faults (left_line here left) added.lines says.1 added.says;
        writes = added.writes before (begins ∙ ap (λ (b : Contents). grown before (ledger_text b.root b.records)) (sym same))
            ∙ ap (λ (b : Contents). grown before (ledger_text b.root (joined_with b.records added.parts))) (sym added.trunk_is);
        counts = subst (λ (b : Contents). New (joined_with b.records added.parts)) (sym trunk_is) (added.counts trunk.records counted);
      }

drop_front : (xs ys : List ℕ) → drop (length xs) (xs ++ ys) ≡ ys
drop_front [] ys = refl
drop_front (x ∷ xs) ys = drop_front xs ys

header_lines : (root : Packed) (rs : List Recorded) → (header_words Two ++ text_of root ++ (10 ∷ [])) ++ record_lines rs ≡ ledger_text root rs
unfolding ledger_text
header_lines root rs =
    append_assoc (header_words Two) (text_of root ++ (10 ∷ [])) (record_lines rs)
    ∙ ap (λ (l : List ℕ). header_words Two ++ l) (append_assoc (text_of root) (10 ∷ []) (record_lines rs))

-- behind the header of a ledger stand the lines of its records
pub behind_header : (root : Packed) (rs : List Recorded) (n : ℕ) (header text : List ℕ) → header ≡ header_words Two ++ text_of root ++ (10 ∷ []) → n ≡ length header
    → text ≡ ledger_text root rs → (n ≤ length text) × (drop n text ≡ record_lines rs)
behind_header root rs n header text is len all =
    let whole : text ≡ header ++ record_lines rs = all ∙ (sym (header_lines root rs) ∙ ap (λ (l : List ℕ). l ++ record_lines rs) (sym is)) in (
      omega (arith, len, ap length whole, length-append header (record_lines rs)),
      ap (λ (l : List ℕ). drop n l) whole ∙ (ap (λ (k : ℕ). drop k (header ++ record_lines rs)) len ∙ drop_front header (record_lines rs)),
    )

-- what is told of a whole that was gathered is told of the trunk and all its parts
pub all_told : {Counted : List Recorded → Type 0} (IsText : Packed → List Recorded → Left → List ℕ → Type 0) (Finds : Findings) (folder : List ℕ) (before after said new_said faults new_faults : Option (List ℕ)) (whole : Collected) (sound : Bool) (r : Result Outcome Ended)
    → IsGathered Finds folder whole sound before after faults new_faults Counted → IfOk r (λ o. (parts : List Contents) → IsWhole whole parts → TellsParts IsText whole.trunk parts sound said new_said o)
    → IfOk r (TellsAll IsText Finds folder before after said new_said faults new_faults)
all_told {Counted} IsText Finds folder before after said new_said faults new_faults whole sound (Ok o) gathered tells = record {
  trunk = whole.trunk;
  parts = gathered.parts;
  lines = gathered.lines;
  holds = gathered.holds;
  is_board = gathered.whole_is.trunk_is;
  are_parts = gathered.whole_is.are_parts;
  tells = subst (λ (s : Bool). TellsParts IsText whole.trunk gathered.parts s said new_said o) gathered.sound (tells gathered.parts gathered.whole_is);
  warns = gathered.says;
  writes = gathered.writes;
}
all_told {Counted} IsText Finds folder before after said new_said faults new_faults whole sound (Err e) gathered tells = tt

-- What is said of a trunk and its parts before the telling ends early.
module _ (Finds : Findings) (folder : List ℕ) where
  -- what is wrong with the trunk and with the first parts is said
  pub warns_behind : (path here : List ℕ) (trunk : Contents) (left : Left) (roots : List Packed) (faults mid new_faults : Option (List ℕ)) → path ≡ path_within folder (codes "trunk") → here ≡ path_within folder (codes "trunk")
      → IsReadAt Finds path trunk left → AreAll (IsOpenOn trunk) roots → Appends faults mid (left_line here left) → SaysMet Finds folder roots mid new_faults → SaysFirst Finds folder faults new_faults
  warns_behind path here trunk left roots faults mid new_faults is there reads are_open says more = record {
    trunk = trunk;
    left = left;
    reads = subst (λ (p : List ℕ). IsReadAt Finds p trunk left) is reads;
    met = more.met;
    later = more.later;
    are_open = subst (AreAll (IsOpenOn trunk)) more.are_all are_open;
    parts = more.parts;
    said = more.lines;
    are_met = more.are_met;
    says = subst (λ (p : List ℕ). Appends faults new_faults (left_line p left ++ more.lines)) there
        (appends_both faults mid new_faults (left_line here left) more.lines says more.says);
  }

  -- before the first part
  pub none_met : (roots : List Packed) (faults : Option (List ℕ)) → SaysMet Finds folder roots faults faults
  none_met roots faults = record { met = []; later = roots; are_all = refl; parts = []; lines = []; are_met = (refl, refl); says = appends_nothing faults }

  -- at one of them
  pub met_before : {Old New : List Recorded → Type 0} (e : Ended) (roots : List Packed) (i : ℕ) (sound : Bool) (trunk : Contents) (whole : Collected) (before after faults mid new_faults : Option (List ℕ)) → roots ≡ take i roots ++ drop i roots
      → AreAdded Finds folder (take i roots) trunk whole sound before after faults mid Old New → PrintsNothing e mid new_faults → SaysMet Finds folder roots faults new_faults ⊎ (e ≡ Stream)
  met_before {Old} {New} e roots i sound trunk whole before after faults mid new_faults split added (inl same) = inl (record {
    met = take i roots;
    later = drop i roots;
    are_all = split;
    parts = added.parts;
    lines = added.lines;
    are_met = added.met;
    says = subst (λ (o : Option (List ℕ)). Appends faults o added.lines) (sym same) added.says;
  })
  met_before {Old} {New} e roots i sound trunk whole before after faults mid new_faults split added (inr stream) = inr stream

  -- all is gathered, but the report isn't written
  pub warns_all : (trunk : Contents) (parts : List Contents) (lines : List ℕ) (faults new_faults : Option (List ℕ)) → HoldsTree Finds folder trunk parts lines → Appends faults new_faults lines → SaysFirst Finds folder faults new_faults
  warns_all trunk parts lines faults new_faults holds says = record {
    trunk = trunk;
    left = holds.left;
    reads = holds.reads;
    met = holds.roots;
    later = [];
    are_open = subst (AreAll (IsOpenOn trunk)) (sym (append-nil holds.roots)) holds.are_open;
    parts = parts;
    said = holds.said;
    are_met = holds.are_met;
    says = subst (Appends faults new_faults) holds.all_lines says;
  }

-- A trunk and its parts that were told of where they stand.
module _ (IsText : Packed → List Recorded → Left → List ℕ → Type 0) (folder : List ℕ) (said new_said faults new_faults : Option (List ℕ)) where
  pub told_alone : (shelf : Shelf) (r : Result Outcome Ended) → IfOk r (TellsAll IsText (finds_at shelf) folder None None said new_said faults new_faults)
      → IfErr r (λ e. PrintsNothing e said new_said) → IfErr r (WarnsFirst (finds_at shelf) folder faults new_faults) → JoinsAt IsText folder shelf shelf said new_said faults new_faults r
  told_alone shelf (Ok o) tells silent warns = (tells, λ path. refl)
  told_alone shelf (Err e) tells silent warns = (silent, warns, λ path. refl)

-- A ledger that is written isn't one of those that are read for it.

-- neither the trunk nor one of the parts of its open tables
pub spared : (Tells : List ℕ → Bool → Type 0) (Finds : Findings) (folder : List ℕ) (trunk : Contents) (left : Left) (roots : List Packed)
    → IsReadAt Finds (path_within folder (codes "trunk")) trunk left → AreAll (IsOpenOn trunk) roots → Tells (path_within folder (codes "trunk")) false
    → AreOthers Tells folder roots → IsSpared Tells Finds folder
spared Tells Finds folder trunk left roots reads all other others = record {
  trunk = trunk;
  left = left;
  reads = reads;
  trunk_is_other = other;
  parts_are_others = λ root is. All-contains (λ (t : Packed). Tells (path_within folder (text_of t)) false) roots root others ((all.exact root).1 is);
}

-- what is told by one is told by another
pub spared_by : (Tells Others : List ℕ → Bool → Type 0) (Finds : Findings) (folder : List ℕ) → ((path : List ℕ) → Tells path false → Others path false)
    → IsSpared Tells Finds folder → IsSpared Others Finds folder
spared_by Tells Others Finds folder so is = record {
  trunk = is.trunk;
  left = is.left;
  reads = is.reads;
  trunk_is_other = so _ is.trunk_is_other;
  parts_are_others = λ root is_open. so _ (is.parts_are_others root is_open);
}

pub spared_at : {T E : Type 0} (Tells Others : List ℕ → Bool → Type 0) (Finds : Findings) (folder : List ℕ) (r : Result T E)
    → ((path : List ℕ) → Tells path false → Others path false) → OnOk r (IsSpared Tells Finds folder) → OnOk r (IsSpared Others Finds folder)
spared_at Tells Others Finds folder (Ok x) so is = spared_by Tells Others Finds folder so is
spared_at Tells Others Finds folder (Err e) so is = tt
