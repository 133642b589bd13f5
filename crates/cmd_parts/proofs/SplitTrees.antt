-- A tree that is split: its trunk is begun, and then its parts, or the first of them.
use Rattle.std.proofs.Common.{◌≡◌, ℕ, zero, suc, ◌+◌, ◌≤◌, cond, List, [], ◌∷◌, ◌++◌, length, take, Option, Some, None, IfSome, IfOk, Result, Ok, Err, inl, inr, refl, sym, ap, ◌∙◌, subst, append-nil, length-append, arith, false, IfErr, OnErr}
use Rattle.std.proofs.lemmas.Bool.{ne_eqb}
use Rattle.std.proofs.lemmas.List.Elements.{All-contains}
use Rattle.std.specs.Prelude.{All, OnOk, codes}
use Rattle.std.specs.Io.KnownBytes.{Appends}
use Rattle.machine_text.specs.Terms.{state_limit, Packed, empty_table, text_of}
use Rattle.law_tree.proofs.TableLaws.{empty_table_in_order, empty_is_table}
use Rattle.cert.specs.Terms.{Recorded}
use Rattle.ledger.specs.Terms.{Contents, IsOpenOn, AreAll, IsTally, header_words, ledger_text, LoadGives, ReadsAs, ReadsAsNone, ReadsIn, IsLedgerOf}
use Rattle.text.specs.Terms.{joined}
use Rattle.ledger.specs.declared.header.Format.{Format}
use Rattle.ledger.specs.declared.header.Format.TheVariants.{Two}
use Rattle.ledger.specs.declared.loading.Left.{Left}
use Rattle.ledger.specs.declared.loading.Left.TheVariants.{Nothing, From}
use Rattle.ledger.proofs.LedgerTexts.{cut_to_kept, whole_ledger}
use Rattle.ledger.proofs.OpenLaws.{board_starts}
use Rattle.cmd_ledgers.specs.Terms.{AreFirstBytes}
use Rattle.cmd_parts.specs.Settle.{GrowsTrunk, LeavesGrown, LeavesTrunk, begun_header, begun_trunk, due_header, kept_size, IsOpenBelow, SettlesMany, filled_count, LeavesBegun, begun_part, path_within, split_text}
use Rattle.wire.specs.Terms.{IsBegun, shortened}
use Rattle.files.specs.Terms.{IsKeptBut, IsLedgerAt, IsPut, IsToldStill, SameFile, Shelf}
use Rattle.cmd_ledgers.proofs.ReadLedgers.{put_told}
use Rattle.cmd_parts.specs.AtPaths.{AreBegunAt, GrowsAt, IsPartBegun, IsPartMade, IsSizeAt, LeavesPartAt, LeavesPartsAt, LeavesTrunkAt, TrunkGoesOnAt, IsCreated, LeavesSplit, SplitsAt, SplitsTree}
use Rattle.ledger.specs.declared.counts.Tally.{Tally}
use Rattle.cmd_options.specs.Terms.{PrintsNothing}
use Rattle.cmd_options.specs.declared.ended.Outcome.{Outcome}
use Rattle.cmd_options.specs.declared.ended.Outcome.TheVariants.{Accepted}
use Rattle.cmd_options.specs.declared.ended.Ended.{Ended}

-- A trunk's ledger that is begun: what is kept of it, or a header alone, is the ledger of its board.
header_alone : (root : Packed) → ledger_text root [] ≡ begun_header root
unfolding ledger_text
header_alone root = refl

fresh : (n : ℕ) → 1 ≤ n → n ≤ state_limit → ReadsIn Two (empty_table n) (begun_header (empty_table n)) [] Nothing
fresh n some limit =
    let whole = whole_ledger (empty_table n) [] (board_starts (empty_table n) (empty_is_table n some limit) (1, empty_table_in_order n some limit)) in
    subst (λ (l : List ℕ). ReadsIn Two (empty_table n) l [] Nothing) (header_alone (empty_table n)) whole

-- some bytes of a ledger with a header are kept
some_kept : (root : Packed) (text : List ℕ) (rs : List Recorded) (left : Left) → ReadsAs root text rs left → 1 ≤ kept_size (length text) left
some_kept root text rs Nothing reads =
    let line = header_words reads.header.format ++ reads.header.name in
    omega (arith, ap length reads.header.line.is, length-append line (10 ∷ reads.body))
some_kept root text rs (From number kept why) reads =
    let line = header_words reads.header.format ++ reads.header.name in
    let all : kept + length reads.keeps.rest ≡ length text = reads.keeps.ends.1 in
    omega (arith, all, ap length reads.header.line.is, length-append line (10 ∷ reads.body), ap length reads.keeps.is, length-append (joined reads.keeps.lines) reads.keeps.rest)

not_due : (root : Packed) (kept : ℕ) → 1 ≤ kept → due_header root kept ≡ []
not_due root kept some = ap (λ b. cond b (begun_header root) []) (ne_eqb kept 0 (λ none. omega arith))

module _ (n : ℕ) (some : 1 ≤ n) (limit : n ≤ state_limit) (text : List ℕ) (rs : List Recorded) where
  with_header : (format : Format) (left : Left) → ReadsIn format (empty_table n) text rs left → IfSome (begun_trunk (empty_table n) (length text) left (Some text)) (λ l. ReadsIn format (empty_table n) l rs Nothing)
  with_header format Nothing reads =
      subst (λ (l : List ℕ). ReadsIn format (empty_table n) l rs Nothing)
      (sym (ap (λ l. text ++ l) (not_due (empty_table n) (length text) (some_kept (empty_table n) text rs Nothing reads.reads)) ∙ append-nil text)) reads
  with_header format (From line kept why) reads =
      subst (λ (l : List ℕ). ReadsIn format (empty_table n) l rs Nothing)
      (sym (ap (λ l. take kept text ++ l) (not_due (empty_table n) kept (some_kept (empty_table n) text rs (From line kept why) reads.reads)) ∙ append-nil (take kept text)))
      (subst (λ (f : Format). ReadsIn f (empty_table n) (take kept text) rs Nothing) reads.version (cut_to_kept (empty_table n) text rs line kept why reads.reads))

  without : (left : Left) → ReadsAsNone text rs left → IfSome (begun_trunk (empty_table n) (length text) left (Some text)) (λ l. ReadsIn Two (empty_table n) l rs Nothing)
  without Nothing torn =
      subst (λ (l : List ℕ). ReadsIn Two (empty_table n) l rs Nothing)
      (sym (ap (λ l. l ++ due_header (empty_table n) (length l)) torn.ends))
      (subst (λ (l : List Recorded). ReadsIn Two (empty_table n) (begun_header (empty_table n)) l Nothing) (sym torn.none) (fresh n some limit))
  without (From line kept why) torn =
      subst (λ (l : List ℕ). ReadsIn Two (empty_table n) l rs Nothing)
      (sym (ap (λ k. take k text ++ due_header (empty_table n) k) torn.ends.2))
      (subst (λ (l : List Recorded). ReadsIn Two (empty_table n) (begun_header (empty_table n)) l Nothing) (sym torn.none) (fresh n some limit))

-- a trunk's ledger that was loaded
module _ (n : ℕ) (some : 1 ≤ n) (limit : n ≤ state_limit) (text : List ℕ) (loaded : Contents) (left : Left) where
  as_loaded : (format : Format) (begun : Option (List ℕ)) → loaded.root ≡ empty_table n → loaded.format ≡ format → IfSome begun (λ l. ReadsIn format (empty_table n) l loaded.records Nothing)
      → IfSome begun (IsLedgerOf loaded)
  as_loaded format None root version h = tt
  as_loaded format (Some l) root version h =
      subst (λ (f : Format). ReadsIn f loaded.root l loaded.records Nothing) (sym version) (subst (λ (p : Packed). ReadsIn format p l loaded.records Nothing) (sym root) h)

  pub trunk_begun : LoadGives (empty_table n) text (Ok (loaded, left)) → IfSome (begun_trunk (empty_table n) (length text) left (Some text)) (IsLedgerOf loaded)
  trunk_begun (root, inl none) = as_loaded Two _ root none.version (without n some limit text loaded.records left none.reads)
  trunk_begun (root, inr reads) = as_loaded loaded.format _ root refl (with_header n some limit text loaded.records loaded.format left reads)

-- the root stays
pub same_root : (Answers : Packed → Recorded → Type 0) (IsDue : Contents → Packed → Type 0) (k : ℕ) (old new : Contents) (before after : Option (List ℕ)) → SettlesMany Answers IsDue k old before new after
    → new.root ≡ old.root
same_root Answers IsDue zero old new before after many = ap (λ (b : Contents). b.root) many.0
same_root Answers IsDue (suc k) old new before after many =
    ap (λ (b : Contents). b.root) many.3.board ∙ same_root Answers IsDue k old many.0 before many.1 many.2

-- what was loaded of the text that was read
pub if_tree : {E : Type 0} (has : Option (List ℕ)) (limit n : ℕ) (text : List ℕ) (root : Packed) (r : Result (Contents × Left × ℕ) E) → AreFirstBytes has limit text → root ≡ empty_table n
    → IfOk r (λ l. (l.2 ≡ length text) × LoadGives root text (Ok (l.0, l.1)))
    → IfOk r (λ l. (x : List ℕ) × AreFirstBytes has limit x × (l.2 ≡ length x) × LoadGives (empty_table n) x (Ok (l.0, l.1)))
if_tree has limit n text root (Ok l) first is h = (text, first, h.0, subst (λ (p : Packed). LoadGives p text (Ok (l.0, l.1))) is h.1)
if_tree has limit n text root (Err e) first is h = tt

-- what was loaded is grown
pub grows_so : (HasNoPart : Packed → Type 0) (Answers : Packed → Recorded → Type 0) (n limit : ℕ) → 1 ≤ n → n ≤ state_limit → (has : Option (List ℕ)) (size : ℕ) (before after : Option (List ℕ)) (loaded new : Contents) (left : Left) (bytes : ℕ)
    → ((text : List ℕ) × AreFirstBytes has size text × (bytes ≡ length text) × LoadGives (empty_table n) text (Ok (loaded, left)))
    → ((t : Packed) → IsOpenBelow limit loaded t → HasNoPart t)
    → ((k : ℕ) × SettlesMany Answers (IsOpenBelow limit) k loaded (begun_trunk loaded.root bytes left before) new after)
    → ((t : Packed) → IsOpenOn new t → limit ≤ filled_count t)
    → (IfSome (begun_trunk loaded.root bytes left before) (IsLedgerOf loaded) → IfSome after (IsLedgerOf new))
    → GrowsTrunk HasNoPart Answers n limit has size before new after
grows_so HasNoPart Answers n limit some few has size before after loaded new left bytes (text, first, is, loads) unsplit (k, many) all step =
    let begun : begun_trunk loaded.root bytes left before ≡ begun_trunk (empty_table n) (length text) left before =
    ap (λ (p : Packed). begun_trunk p bytes left before) loads.0 ∙ ap (λ (m : ℕ). begun_trunk (empty_table n) m left before) is in
    record {
      text = text;
      first = first;
      loaded = loaded;
      left = left;
      loads = loads;
      unsplit = unsplit;
      count = k;
      many = subst (λ (o : Option (List ℕ)). SettlesMany Answers (IsOpenBelow limit) k loaded o new after) begun many;
      none_below = all;
      step = λ known. step (subst (λ (o : Option (List ℕ)). IfSome o (IsLedgerOf loaded)) (sym begun)
          (subst (λ (o : Option (List ℕ)). IfSome (begun_trunk (empty_table n) (length text) left o) (IsLedgerOf loaded)) (sym known) (trunk_begun n some few text loaded left loads)));
    }

-- where each of the tables that are due is seen so, each that is due is
pub none_seen : {T E : Type 0} (IsSeen IsDue : Packed → Type 0) (due : List Packed) (r : Result T E) → AreAll IsDue due → OnOk r (All IsSeen due) → OnOk r ((t : Packed) → IsDue t → IsSeen t)
none_seen IsSeen IsDue due (Ok x) all h = λ t is. All-contains IsSeen due t h ((all.exact t).1 is)
none_seen IsSeen IsDue due (Err e) all h = tt

-- or what is left of it
pub leaves_so : (HasNoPart : Packed → Type 0) (Answers : Packed → Recorded → Type 0) (n limit : ℕ) (has : Option (List ℕ)) (size : ℕ) (before after : Option (List ℕ)) (loaded : Contents) (left : Left) (bytes : ℕ)
    → ((text : List ℕ) × AreFirstBytes has size text × (bytes ≡ length text) × LoadGives (empty_table n) text (Ok (loaded, left)))
    → ((t : Packed) → IsOpenBelow limit loaded t → HasNoPart t) → LeavesGrown Answers limit loaded bytes left before after → LeavesTrunk HasNoPart Answers n limit has size before after
leaves_so HasNoPart Answers n limit has size before after loaded left bytes (text, first, is, loads) unsplit leaves =
    inr (text, loaded, left, first, loads, unsplit, subst (λ (m : ℕ). LeavesGrown Answers limit loaded m left before after) is leaves)

-- Parts that are begun one after another, by what stands at their paths.

-- what is told of paths before is told of them still, so that a part is made so by what was told before too
pub made_told : (Does : ℕ → Option (List ℕ) → Option (List ℕ) → Type 0) (tells later : SameFile) (path : List ℕ) (old new : Shelf) → IsToldStill tells later → IsPartMade Does later path old new
    → IsPartMade Does tells path old new
made_told Does tells later path old new still so = record {
  before = so.before;
  size = so.size;
  is_before = so.is_before;
  is_size = so.is_size;
  after = so.after;
  does = so.does;
  is_put = record { at = so.is_put.at; others = λ other apart. so.is_put.others other (still path other false apart) };
}

pub begun_told : (tells later : SameFile) (path : List ℕ) (root : Packed) (old new : Shelf) → IsToldStill tells later → IsPartBegun later path root old new → IsPartBegun tells path root old new
begun_told tells later path root old new still so = made_told (λ (size : ℕ) (before after : Option (List ℕ)). after ≡ begun_part root size before) tells later path old new still so

pub left_told : (tells later : SameFile) (path : List ℕ) (root : Packed) (old new : Shelf) → IsToldStill tells later → LeavesPartAt later path root old new → LeavesPartAt tells path root old new
left_told tells later path root old new still (inl kept) = inl kept
left_told tells later path root old new still (inr so) = inr (made_told (LeavesBegun root) tells later path old new still so)

pub told_then : (one other later : SameFile) → IsToldStill one other → IsToldStill other later → IsToldStill one later
told_then one other later first second a b told is = second a b told (first a b told is)

-- a ledger that was opened at a path, made the part's, and closed there
pub made_at : (Does : ℕ → Option (List ℕ) → Option (List ℕ) → Type 0) (tells later : SameFile) (path : List ℕ) (old opened new : Shelf) (before after : Option (List ℕ)) (size : ℕ) →
    IsLedgerAt (old path) before → IsSizeAt (old path) size → IsKeptBut tells path old opened → IsToldStill tells later → Does size before after →
    IsPut later path after opened new → IsPartMade Does tells path old new
made_at Does tells later path old opened new before after size ledger is_size kept still does put = record {
  before = before;
  size = size;
  is_before = ledger;
  is_size = is_size;
  after = after;
  does = does;
  is_put = put_told tells later path after old opened new kept still put;
}

-- what a part's ledger that is cut and not written has of its header
pub begun_none : (text : Option (List ℕ)) (bytes : List ℕ) → IsBegun (shortened 0 text) bytes (shortened 0 text)
begun_none None bytes = (0, refl)
begun_none (Some text) bytes = (0, refl)

-- a trunk that is gone on with
trunk_told : (Does : (Packed → Type 0) → Option (List ℕ) → ℕ → Option (List ℕ) → Option (List ℕ) → Type 0) (tells later : SameFile) (folder path : List ℕ) (old new : Shelf) → IsToldStill tells later
    → TrunkGoesOnAt Does later folder path old new → TrunkGoesOnAt Does tells folder path old new
trunk_told Does tells later folder path old new still at = record {
  opened = at.opened;
  is_opened = λ other apart. at.is_opened other (still path other false apart);
  goes_on = record {
    has = at.goes_on.has;
    size = at.goes_on.size;
    is_read = at.goes_on.is_read;
    before = at.goes_on.before;
    is_before = at.goes_on.is_before;
    after = at.goes_on.after;
    does = at.goes_on.does;
    is_put = put_told tells later path at.goes_on.after old old new (λ other apart. refl) still at.goes_on.is_put;
  };
}

pub grows_told : (Answers : Packed → Recorded → Type 0) (tells later : SameFile) (n limit : ℕ) (folder path : List ℕ) (old new : Shelf) (trunk : Contents) → IsToldStill tells later
    → GrowsAt Answers later n limit folder path old new trunk → GrowsAt Answers tells n limit folder path old new trunk
grows_told Answers tells later n limit folder path old new trunk still at =
    trunk_told (λ (HasNoPart : Packed → Type 0) (has : Option (List ℕ)) (size : ℕ) (before after : Option (List ℕ)). GrowsTrunk HasNoPart Answers n limit has size before trunk after)
    tells later folder path old new still at

pub leaves_told : (Answers : Packed → Recorded → Type 0) (tells later : SameFile) (n limit : ℕ) (folder path : List ℕ) (old new : Shelf) → IsToldStill tells later
    → LeavesTrunkAt Answers later n limit folder path old new → LeavesTrunkAt Answers tells n limit folder path old new
leaves_told Answers tells later n limit folder path old new still (inl kept) = inl kept
leaves_told Answers tells later n limit folder path old new still (inr at) =
    inr (trunk_told (λ (HasNoPart : Packed → Type 0). LeavesTrunk HasNoPart Answers n limit) tells later folder path old new still at)

-- and parts that are begun
pub all_begun_told : (tells later : SameFile) (folder : List ℕ) (roots : List Packed) (old new : Shelf) → IsToldStill tells later → AreBegunAt later folder roots old new → AreBegunAt tells folder roots old new
all_begun_told tells later folder [] old new still kept = kept
all_begun_told tells later folder (root ∷ roots) old new still (middle, one, more) =
    (middle, begun_told tells later (path_within folder (text_of root)) root old middle still one, all_begun_told tells later folder roots middle new still more)

-- or of which the first are begun
pub all_left_told : (tells later : SameFile) (folder : List ℕ) (roots : List Packed) (old new : Shelf) → IsToldStill tells later → LeavesPartsAt later folder roots old new → LeavesPartsAt tells folder roots old new
all_left_told tells later folder [] old new still kept = kept
all_left_told tells later folder (root ∷ roots) old new still (inl left) = inl (left_told tells later (path_within folder (text_of root)) root old new still left)
all_left_told tells later folder (root ∷ roots) old new still (inr (middle, one, more)) =
    inr (middle, begun_told tells later (path_within folder (text_of root)) root old middle still one, all_left_told tells later folder roots middle new still more)

-- where all are begun, so are the first
pub all_left : (tells : SameFile) (folder : List ℕ) (roots : List Packed) (old new : Shelf) → AreBegunAt tells folder roots old new → LeavesPartsAt tells folder roots old new
all_left tells folder [] old new kept = kept
all_left tells folder (root ∷ roots) old new (middle, one, more) = inr (middle, one, all_left tells folder roots middle new more)

-- A tree that was split where its files stand, and what an early end left of it.
module _ (Answers : Packed → Recorded → Type 0) (tells one two : SameFile) (n limit : ℕ) (folder first second : List ℕ) (old created grown new : Shelf) (trunk : Contents) (said new_said : Option (List ℕ)) where
  pub split_so : first ≡ path_within folder (codes "trunk") → second ≡ path_within folder (codes "trunk") → IsCreated tells first old created → IsToldStill tells one
      → GrowsAt Answers one n limit folder second created grown trunk → trunk.root ≡ empty_table n → IsToldStill one two
      → ((roots : List Packed) × AreAll (IsOpenOn trunk) roots × AreBegunAt two folder roots grown new) → ((tally : Tally) × IsTally trunk.root trunk.records tally × Appends said new_said (split_text tally))
      → SplitsTree Answers tells n limit folder old new said new_said
  split_so is same makes still grows root later (roots, all, begun) (tally, counted, says) = record {
    trunk = trunk;
    root = root;
    created = created;
    is_created = subst (λ (p : List ℕ). IsCreated tells p old created) is makes;
    grown = grown;
    grows = grows_told Answers tells one n limit folder (path_within folder (codes "trunk")) created grown trunk still
        (subst (λ (p : List ℕ). GrowsAt Answers one n limit folder p created grown trunk) same grows);
    roots = roots;
    are_open = all;
    begun = all_begun_told tells two folder roots grown new (told_then tells one two still later) begun;
    tally = tally;
    counted = counted;
    says = says;
  }

module _ {K : Type 0} (Answers : Packed → Recorded → Type 0) (Locks : Result (Option K) Ended → Type 0) (tells : SameFile) (n limit : ℕ) (folder : List ℕ) (old new : Shelf) where
  -- by how it ends
  pub splits : (said new_said : Option (List ℕ)) (r : Result Outcome Ended)
      → IfOk r (λ o. (o ≡ Accepted) × ((lock : K) × Locks (Ok (Some lock))) × SplitsTree Answers tells n limit folder old new said new_said)
      → IfErr r (λ e. PrintsNothing e said new_said) → OnErr r (LeavesSplit Answers Locks tells n limit folder old new) → SplitsAt Answers Locks tells n limit folder old new said new_said r
  splits said new_said (Ok o) so silent leaves = so
  splits said new_said (Err e) so silent leaves = (silent, leaves)

  module _ (one : SameFile) (first second : List ℕ) (created : Shelf) (is : first ≡ path_within folder (codes "trunk")) (makes : IsCreated tells first old created) where
    is_made : IsCreated tells (path_within folder (codes "trunk")) old created
    is_made = subst (λ (p : List ℕ). IsCreated tells p old created) is makes

    -- where the trunk isn't grown
    pub leaves_trunk : (lock : K) → Locks (Ok (Some lock)) → second ≡ path_within folder (codes "trunk") → IsToldStill tells one → LeavesTrunkAt Answers one n limit folder second created new
        → LeavesSplit Answers Locks tells n limit folder old new
    leaves_trunk lock locked same still leaves = inr (
      created,
      is_made,
      inr (
        (lock, locked),
        inl (leaves_told Answers tells one n limit folder (path_within folder (codes "trunk")) created new still
            (subst (λ (p : List ℕ). LeavesTrunkAt Answers one n limit folder p created new) same leaves)),
      ),
    )

    -- where it is, and its parts aren't begun or told
    pub leaves_parts : (two : SameFile) (grown : Shelf) (trunk : Contents) (lock : K) → Locks (Ok (Some lock)) → second ≡ path_within folder (codes "trunk") → IsToldStill tells one
        → GrowsAt Answers one n limit folder second created grown trunk → trunk.root ≡ empty_table n → IsToldStill one two
        → ((roots : List Packed) × AreAll (IsOpenOn trunk) roots × LeavesPartsAt two folder roots grown new) → LeavesSplit Answers Locks tells n limit folder old new
    leaves_parts two grown trunk lock locked same still grows root later (roots, all, begun) = inr (
      created,
      is_made,
      inr (
        (lock, locked),
        inr (record {
          trunk = trunk;
          root = root;
          grown = grown;
          grows = grows_told Answers tells one n limit folder (path_within folder (codes "trunk")) created grown trunk still
              (subst (λ (p : List ℕ). GrowsAt Answers one n limit folder p created grown trunk) same grows);
          roots = roots;
          are_open = all;
          begun = all_left_told tells two folder roots grown new (told_then tells one two still later) begun;
        }),
      ),
    )
