-- What a text with a header is loaded as, whole or in pieces, and what is said of it.
use Rattle.std.proofs.Common.{◌≡◌, ℕ, List, ◌++◌, refl, sym, ◌∙◌, ap, subst, inl, inr, Ok, Err, ◌≤◌, ◌⊎◌, [], length, None, Some, append-nil, Option, arith}
use Rattle.std.proofs.lemmas.List.{append_cancel_left}
use Rattle.machine_text.specs.Terms.{Packed, entry_of, empty_table, table_of}
use Rattle.ledger.specs.Terms.{Contents, HasHeader, LoadGives, ReadsIn, header_words, PeekGives, Loading, StandsAfter, IsGreatestCount, IsGreatestOnes, IsStatus}
use Rattle.ledger.specs.declared.header.Format.{Format}
use Rattle.ledger.specs.declared.loading.Left.{Left}
use Rattle.ledger.specs.declared.faults.LoadFault.{LoadFault}
use Rattle.ledger.specs.declared.faults.LoadFault.TheVariants.{BadHeader, WrongRoot, NoMemory}
use Rattle.text.proofs.Cuts.{line_has_newline, same_line}
use Rattle.ledger.proofs.HeaderLaws.{one_format}
use Rattle.libbb.specs.TreeAnswer.{Reports, TellsOf, no_tree, IsEmptyRoot, status_number}
use Rattle.libbb.specs.declared.tree_answer.TreeAnswer.{TreeAnswer}
use Rattle.law_tree.specs.Terms.{InOrder}
use Rattle.text.specs.Terms.{HasNoNewline}
use Rattle.ledger.proofs.Feeding.{header_more}
use Rattle.libbb.specs.Pieces.{IsHeadedBy, HasFault, IsBehind}
use Rattle.libbb.specs.declared.reader.Behind.TheVariants.{Headed, Ended}
use Rattle.ledger.proofs.StageLaws.{bad_behind}
use Rattle.cert.specs.Terms.{Recorded}
use Rattle.ledger.specs.declared.faults.Status.{Status}
use Rattle.ledger.specs.declared.faults.Status.TheVariants.{Working, Holdouts, Complete}
use Rattle.libbb.specs.Answer.{flag, or_zero}

-- What a text with a header is loaded as, and what is then said of it.

-- a text has one header
one_header : (text : List ℕ) (a b : Packed) (rest more : List ℕ) → HasHeader text a rest → HasHeader text b more → a ≡ b
one_header text a b rest more x y =
    let line = (same_line x.line y.line).0 in
    let format : x.format ≡ y.format = one_format x.format y.format x.name y.name line in
    let name : x.name ≡ y.name = append_cancel_left (header_words y.format) x.name y.name (subst (λ (f : Format). header_words f ++ x.name ≡ header_words y.format ++ y.name) format line) in
    let read : Ok a ≡ Ok b = sym x.reads ∙ (ap table_of name ∙ y.reads) in
    cc

-- one that is loaded is no torn header
read_whole : (text : List ℕ) (root : Packed) (rest : List ℕ) (loaded : Contents × Left) → HasHeader text root rest → LoadGives root text (Ok loaded)
    → ReadsIn loaded.0.format root text loaded.0.records loaded.1
read_whole text root rest loaded header gives = elim gives.1 [
  | inl none ↦ absurd (line_has_newline header.line none.reads.torn.no_newline)
  | inr stands ↦ stands
]

-- what is said of the board is said of the text
pub loaded_reports : (text : List ℕ) (root : Packed) (rest : List ℕ) (loaded : Contents × Left) (a : TreeAnswer) → HasHeader text root rest → LoadGives root text (Ok loaded)
    → TellsOf loaded.0.root loaded.0.records loaded.1 a → Reports text a
loaded_reports text root rest loaded a header gives tells =
    inl (record {
      root = root;
      records = loaded.0.records;
      left = loaded.1;
      reads = (read_whole text root rest loaded header gives).reads;
      tells = subst (λ (p : Packed). TellsOf p loaded.0.records loaded.1 a) gives.0 tells;
    })

-- there is no board for refused memory alone
pub unloaded_reports : (text : List ℕ) (root : Packed) (rest : List ℕ) (f : LoadFault) (a : TreeAnswer) → HasHeader text root rest → LoadGives root text (Err f)
    → (f ≡ NoMemory → a ≡ no_tree 4 0) → Reports text a
unloaded_reports text root rest BadHeader a header gives said = absurd (gives.none root rest header)
unloaded_reports text root rest WrongRoot a header gives said = absurd (gives.3 (one_header text gives.0 root gives.1 rest gives.2 header))
unloaded_reports text root rest NoMemory a header gives said = inr (inr (inr ((root, rest, header), said refl)))

-- A text that comes in pieces: what more of it does to what it has come to, and what is said of it at its end.

-- first bytes that are enough
abbrev pub IsEnough : List ℕ → Type 0
IsEnough first = (HasNoNewline first → ⊥) ⊎ (64 ≤ length first)

pub torn_ends : (first : List ℕ) → IsEnough first → PeekGives first (Ok None) → IsBehind first (Ended BadHeader)
torn_ends first enough torn = λ more. bad_behind first more enough (inl torn)

pub peek_ends : (first : List ℕ) (f : LoadFault) → IsEnough first → PeekGives first (Err f) → IsBehind first (Ended f)
peek_ends first BadHeader enough h = λ more. bad_behind first more enough (inr h)
peek_ends first WrongRoot enough h = λ more. (h.0, h.1 ++ more, header_more first more h.0 h.1 h.2, h.3)
peek_ends first NoMemory enough h = absurd h

pub headed_more : (root : Packed) (text more : List ℕ) → IsHeadedBy root text → IsHeadedBy root (text ++ more)
headed_more root text more is = ((is.0.0 ++ more, header_more text more root is.0.0 is.0.1), is.1)

-- a text with a header may lack memory
pub lacks_memory : (root : Packed) (text : List ℕ) → IsHeadedBy root text → IsBehind text (Ended NoMemory)
lacks_memory root text is = λ more. (root, is.0.0 ++ more, header_more text more root is.0.0 is.0.1)

-- what is said of a text that has a fault
pub fault_reports : (text : List ℕ) (f : LoadFault) (a : TreeAnswer) → HasFault f text → (f ≡ BadHeader → a ≡ no_tree 3 404) → (f ≡ WrongRoot → a ≡ no_tree 3 405)
    → (f ≡ NoMemory → a ≡ no_tree 4 0) → Reports text a
fault_reports text BadHeader a h bad wrong memory = inr (inl (h, bad refl))
fault_reports text WrongRoot a h bad wrong memory = inr (inr (inl (h, wrong refl)))
fault_reports text NoMemory a h bad wrong memory = inr (inr (inr (h, memory refl)))

pub ended_reports : (text : List ℕ) (f : LoadFault) (a : TreeAnswer) → IsBehind text (Ended f) → (f ≡ BadHeader → a ≡ no_tree 3 404) → (f ≡ WrongRoot → a ≡ no_tree 3 405)
    → (f ≡ NoMemory → a ≡ no_tree 4 0) → Reports text a
ended_reports text f a is bad wrong memory = fault_reports text f a (subst (HasFault f) (append-nil text) (is [])) bad wrong memory

-- what is said of a text that is loaded to its end
pub loads_reports : (l : Loading) (loaded : Contents × Left) (a : TreeAnswer) → ((text : List ℕ) → StandsAfter l text → LoadGives l.root text (Ok loaded))
    → TellsOf loaded.0.root loaded.0.records loaded.1 a → (text : List ℕ) → IsBehind text (Headed l) → Reports text a
loads_reports l loaded a gives tells text is = loaded_reports text l.root is.1.0.0 loaded a is.1.0.1 (gives text is.0) tells

pub fails_reports : (l : Loading) (f : LoadFault) (a : TreeAnswer) → ((text : List ℕ) → StandsAfter l text → LoadGives l.root text (Err f))
    → (f ≡ NoMemory → a ≡ no_tree 4 0) → (text : List ℕ) → IsBehind text (Headed l) → Reports text a
fails_reports l f a gives memory text is = unloaded_reports text l.root is.1.0.0 f a is.1.0.1 (gives text is.0) memory

-- Records have one greatest count and one greatest score.
pub one_count : (rs : List Recorded) (a b : Option ℕ) → IsGreatestCount rs a → IsGreatestCount rs b → a ≡ b
one_count rs None None x y = refl
one_count rs None (Some s) x y = absurd (x y.0.0 s y.0.1)
one_count rs (Some r) None x y = absurd (y x.0.0 r x.0.1)
one_count rs (Some r) (Some s) x y =
    let low : r ≤ s = y.1 x.0.0 r x.0.1 in let high : s ≤ r = x.1 y.0.0 s y.0.1 in ap (λ (n : ℕ). Some n) (omega arith)

pub one_score : (rs : List Recorded) (a b : Option ℕ) → IsGreatestOnes rs a → IsGreatestOnes rs b → a ≡ b
one_score rs None None x y = refl
one_score rs None (Some s) x y = absurd (x y.0.0 s y.0.1)
one_score rs (Some r) None x y = absurd (y x.0.0 r x.0.1)
one_score rs (Some r) (Some s) x y =
    let low : r ≤ s = y.1 x.0.0 r x.0.1 in let high : s ≤ r = x.1 y.0.0 s y.0.1 in ap (λ (n : ℕ). Some n) (omega arith)

-- What is said of a complete board of the empty table: its greatest numbers are Radó's.

-- the greatest count that is said is that of the status
pub best_said : (root : Packed) (rs : List Recorded) (status : Status) (best : Option ℕ) (Is : ℕ → Type 0) → IsStatus root rs status → IsGreatestCount rs best
    → ((s : ℕ) (ones : Option ℕ) → status ≡ Complete (Some s) ones → Is s) → status_number status ≡ 0 → flag best ≡ 1 → Is (or_zero best)
best_said root rs (Complete b ones) (Some s) Is stands greatest law outcome has = law s ones (ap (λ (o : Option ℕ). Complete o ones) (one_count rs b (Some s) stands.1 greatest))
best_said root rs (Complete b ones) None Is stands greatest law outcome has = absurd (cc)
best_said root rs (Holdouts count) best Is stands greatest law outcome has = absurd (cc)
best_said root rs (Working count) best Is stands greatest law outcome has = absurd (cc)

-- and so is the greatest score
pub ones_said : (root : Packed) (rs : List Recorded) (status : Status) (ones : Option ℕ) (Is : ℕ → Type 0) → IsStatus root rs status → IsGreatestOnes rs ones
    → ((s : ℕ) (best : Option ℕ) → status ≡ Complete best (Some s) → Is s) → status_number status ≡ 0 → flag ones ≡ 1 → Is (or_zero ones)
ones_said root rs (Complete best o) (Some s) Is stands greatest law outcome has = law s best (ap (λ (n : Option ℕ). Complete best n) (one_score rs o (Some s) stands.2 greatest))
ones_said root rs (Complete best o) None Is stands greatest law outcome has = absurd (cc)
ones_said root rs (Holdouts count) ones Is stands greatest law outcome has = absurd (cc)
ones_said root rs (Working count) ones Is stands greatest law outcome has = absurd (cc)

-- a root of which it is said is the empty table
pub whole_root : (root held : Packed) (n whole : ℕ) → root ≡ held → n ≡ root.states → IsEmptyRoot root whole → whole ≡ 1 → held ≡ empty_table n
whole_root root held n whole is states (inl empty) one = sym is ∙ empty.1 ∙ ap empty_table (sym states)
whole_root root held n whole is states (inr other) one = let e = other.0 in absurd (cc)
