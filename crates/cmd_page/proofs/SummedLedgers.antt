-- A ledger that is loaded and summed up as it is read, piece after piece.
use Rattle.std.proofs.Common.{◌≡◌, ◌⊎◌, inl, inr, ℕ, ◌+◌, ◌-◌, List, [], ◌++◌, length, Option, Result, Ok, Err, IfOk, refl, sym, subst, arith, append_assoc, append-nil, length-append, ◌≤◌, None, Some, ap, ◌∙◌, ◌∷◌}
use Rattle.std.proofs.KnownBytes.{Consumes-trans, Consumes-nil}
use Rattle.std.specs.Io.KnownBytes.{Consumes, IsAtEnd}
use Rattle.std.proofs.lemmas.List.{take_all}
use Rattle.machine_text.specs.Terms.{Packed, entry_of, text_of}
use Rattle.law_tree.specs.Terms.{InOrder}
use Rattle.sha2.specs.Hashers.{Holds256}
use Rattle.sha2.specs.Sha256.{sha256}
use Rattle.sha2.specs.declared.Sha256.{Sha256}
use Rattle.ledger.specs.Terms.{Contents, HasHeader, LoadGives, ReadsIn, Loading, StandsAfter}
use Rattle.ledger.specs.declared.loading.Left.{Left}
use Rattle.ledger.proofs.StageLaws.{fed_more}
use Rattle.cmd_ledgers.specs.Terms.{AreFirstBytes, BeginsWithRoot}
use Rattle.cmd_ledgers.proofs.ReadLedgers.{all_first, first_behind, load_taken, behind_loads}
use Rattle.ledger.proofs.Feeding.{header_more}
use Rattle.cmd_page.specs.Page.{IsSummedBehind, IsSummedFrom, AreListLines, IsListLine}
use Rattle.cmd_page.specs.inside.{FeedsBoth}
use Rattle.cmd_parts.specs.Terms.{Findings, path_within}

-- A ledger that is loaded and summed up as it is read.

-- nothing more was fed
pub fed_none : (loader : Loading) (hasher : Sha256) → FeedsBoth loader hasher [] loader hasher
fed_none loader hasher = record {
  fed = record { root = refl; bytes = omega arith; stands = λ text stands. subst (StandsAfter loader) (sym (append-nil text)) stands };
  summed = λ text holds. subst (Holds256 hasher) (sym (append-nil text)) holds;
}

-- one piece behind another
pub fed_both : (old mid new : Loading) (hasher mid_hasher new_hasher : Sha256) (first more : List ℕ) → FeedsBoth old hasher first mid mid_hasher → FeedsBoth mid mid_hasher more new new_hasher
    → FeedsBoth old hasher (first ++ more) new new_hasher
fed_both old mid new hasher mid_hasher new_hasher first more before after = record {
  fed = fed_more old mid new first more before.fed after.fed;
  summed = λ text holds. subst (Holds256 new_hasher) (append_assoc text first more) (after.summed (text ++ first) (before.summed text holds));
}

-- so much was read and fed, and so many bytes are left to read
pub record IsFeeding (old : Loading) (hasher : Sha256) (read : Option (List ℕ)) (limit : ℕ) (new : Loading) (new_hasher : Sha256) (new_read : Option (List ℕ)) (left : ℕ) : Type 0 where
  pub text : List ℕ
  pub consumed : Consumes read new_read text
  pub feeds : FeedsBoth old hasher text new new_hasher
  pub size : length text + left ≡ limit

pub feeding_goes_on : (old mid new : Loading) (hasher mid_hasher new_hasher : Sha256) (read mid_read new_read : Option (List ℕ)) (limit left after : ℕ) (part : List ℕ)
    → IsFeeding old hasher read limit mid mid_hasher mid_read left → Consumes mid_read new_read part → FeedsBoth mid mid_hasher part new new_hasher → length part + after ≡ left
    → IsFeeding old hasher read limit new new_hasher new_read after
feeding_goes_on old mid new hasher mid_hasher new_hasher read mid_read new_read limit left after part going more fed size = record {
  text = going.text ++ part;
  consumed = Consumes-trans read mid_read new_read going.text part going.consumed more;
  feeds = fed_both old mid new hasher mid_hasher new_hasher going.text part going.feeds fed;
  size = omega (arith, going.size, size, length-append going.text part);
}

pub feeding_ends : (old new : Loading) (hasher new_hasher : Sha256) (read new_read : Option (List ℕ)) (limit left : ℕ) → IsFeeding old hasher read limit new new_hasher new_read left
    → (left ≡ 0) ⊎ IsAtEnd new_read → (more : List ℕ) × AreFirstBytes read limit more × FeedsBoth old hasher more new new_hasher
feeding_ends old new hasher new_hasher read new_read limit left going done = (
  going.text,
  all_first read new_read limit going.text going.consumed (omega (arith, going.size)) (elim done [
    | inl none ↦ inl (omega (arith, going.size, none))
    | inr end ↦ inr end
  ]),
  going.feeds,
)

-- nothing more was read
pub feeding_stops : (old new : Loading) (hasher new_hasher : Sha256) (read mid_read new_read : Option (List ℕ)) (limit left : ℕ) (part : List ℕ) → IsFeeding old hasher read limit new new_hasher mid_read left
    → Consumes mid_read new_read part → part ≡ [] → IsAtEnd new_read → (more : List ℕ) × AreFirstBytes read limit more × FeedsBoth old hasher more new new_hasher
feeding_stops old new hasher new_hasher read mid_read new_read limit left part going more none end =
    let none_more = subst (Consumes mid_read new_read) none more in
    feeding_ends old new hasher new_hasher read new_read limit left
    (record {
      text = going.text;
      consumed = subst (Consumes read new_read) (append-nil going.text) (Consumes-trans read mid_read new_read going.text [] going.consumed none_more);
      feeds = going.feeds;
      size = going.size;
    })
    (inr end)

-- what is loaded behind first bytes, and its sum
pub summed_behind : (old mid new : Loading) (hasher mid_hasher new_hasher : Sha256) (root : Packed) (first : List ℕ) (read : Option (List ℕ)) (limit : ℕ) (rest sum : List ℕ) (loaded : Contents × Left)
    → old.root ≡ root → StandsAfter old [] → Holds256 hasher [] → HasHeader first root rest → FeedsBoth old hasher first mid mid_hasher
    → ((more : List ℕ) × AreFirstBytes read limit more × FeedsBoth mid mid_hasher more new new_hasher)
    → ((all : List ℕ) → StandsAfter new all → LoadGives new.root all (Ok loaded)) → ((m : List ℕ) → Holds256 new_hasher m → sum ≡ sha256 m)
    → (loaded.0.root ≡ root) × IsSummedBehind root first read limit loaded.0 loaded.1 sum
summed_behind old mid new hasher mid_hasher new_hasher root first read limit rest sum loaded same stands empty header before all gives digests =
    let more = all.0 in
    let both = fed_both old mid new hasher mid_hasher new_hasher first more before all.2 in
    let is : LoadGives root (first ++ more) (Ok loaded) = behind_loads old new root (first ++ more) (Ok loaded) same stands both.fed gives in (
      is.0,
      record {
        more = more;
        are_first = all.1;
        reads = load_taken (first ++ more) root loaded (root, rest ++ more, header_more first more root rest header) is;
        is = digests (first ++ more) (both.summed [] empty);
      },
    )

-- and with the first bytes
pub summed_from : {T E : Type 0} (old mid : Option (List ℕ)) (limit left : ℕ) (first : List ℕ) (root : Packed) (r : Result T E) (b : T → Contents) (left_of : T → Left) (sum : T → List ℕ) → BeginsWithRoot old mid limit first root → left ≡ limit - length first
    → IfOk r (λ l. ((b l).root ≡ root) × IsSummedBehind root first mid left (b l) (left_of l) (sum l)) → IfOk r (λ l. IsSummedFrom old limit (b l) (left_of l) (sum l))
summed_from old mid limit left first root (Ok l) b left_of sum begins is h =
    let behind = h.1 in
    record {
      loaded = record {
        text = first ++ behind.more;
        first = first_behind old mid limit first behind.more begins.consumed begins.within (subst (λ (n : ℕ). AreFirstBytes mid n behind.more) is behind.are_first);
        reads = subst (λ (p : Packed). ReadsIn (b l).format p (first ++ behind.more) (b l).records (left_of l)) (sym h.0) behind.reads;
        order = subst (λ (p : Packed). (u : ℕ) × InOrder u (entry_of p)) (sym h.0) begins.order;
      };
      is = behind.is;
    }
summed_from old mid limit left first root (Err e) b left_of sum begins is h = tt

-- Pieces that are read and fed to a hasher one after another.

-- so much was read and fed, and so many bytes are left to read
pub record IsGoingOn (read : Option (List ℕ)) (limit : ℕ) (hasher : Sha256) (new_read : Option (List ℕ)) (left : ℕ) : Type 0 where
  pub text : List ℕ
  pub consumed : Consumes read new_read text
  pub holds : Holds256 hasher text
  pub size : length text + left ≡ limit

pub begins : (read : Option (List ℕ)) (limit : ℕ) (hasher : Sha256) → Holds256 hasher [] → IsGoingOn read limit hasher read limit
begins read limit hasher holds = record { text = []; consumed = Consumes-nil read; holds = holds; size = omega arith }

pub goes_on : (read mid_read new_read : Option (List ℕ)) (limit left after : ℕ) (mid new : Sha256) (part : List ℕ) → IsGoingOn read limit mid mid_read left
    → Consumes mid_read new_read part → ((m : List ℕ) → Holds256 mid m → Holds256 new (m ++ part)) → length part + after ≡ left → IsGoingOn read limit new new_read after
goes_on read mid_read new_read limit left after mid new part going more fed size = record {
  text = going.text ++ part;
  consumed = Consumes-trans read mid_read new_read going.text part going.consumed more;
  holds = fed going.text going.holds;
  size = omega (arith, going.size, size, length-append going.text part);
}

-- and so are all that there are
pub at_end : (read new_read : Option (List ℕ)) (limit : ℕ) (text : List ℕ) → Consumes read new_read text → IsAtEnd new_read → length text ≤ limit → AreFirstBytes read limit text
at_end None new_read limit text consumed end size = size
at_end (Some all) None limit text consumed end size = absurd consumed
at_end (Some all) (Some rest) limit text consumed end size =
    let whole : all ≡ text = consumed ∙ (ap (λ (l : List ℕ). text ++ l) end ∙ append-nil text) in
    rw whole (sym (take_all limit text size))

-- Lines that are appended one after another.

-- what was appended, and the lines of the roots that are left, are those of all
pub record AreBegun (Finds : Findings) (folder : List ℕ) (all left : List Packed) (old new : List ℕ) : Type 0 where
  pub done : List ℕ
  pub is : new ≡ old ++ done
  pub goes : (rest : List ℕ) → AreListLines Finds folder left rest → AreListLines Finds folder all (done ++ rest)

pub begun_none : (Finds : Findings) (folder : List ℕ) (all left : List Packed) (old : List ℕ) → left ≡ all → AreBegun Finds folder all left old old
begun_none Finds folder all left old same = record {
  done = [];
  is = sym (append-nil old);
  goes = λ rest are. subst (λ (l : List Packed). AreListLines Finds folder l rest) same are;
}

pub begun_more : (Finds : Findings) (folder : List ℕ) (all before : List Packed) (root : Packed) (left : List Packed) (line old out new : List ℕ)
    → AreBegun Finds folder all before old out → before ≡ root ∷ left → IsListLine Finds (path_within folder (text_of root)) (text_of root) line → new ≡ out ++ line
    → AreBegun Finds folder all left old new
begun_more Finds folder all before root left line old out new begun is one appended = record {
  done = begun.done ++ line;
  is = appended ∙ (ap (λ (l : List ℕ). l ++ line) begun.is ∙ append_assoc old begun.done line);
  goes = λ rest are.
      let here : AreListLines Finds folder (root ∷ left) (line ++ rest) = (line, rest, one, are, refl) in
      subst (AreListLines Finds folder all) (sym (append_assoc begun.done line rest))
      (begun.goes (line ++ rest) (subst (λ (l : List Packed). AreListLines Finds folder l (line ++ rest)) (sym is) here));
}

pub begun_all : (Finds : Findings) (folder : List ℕ) (all left : List Packed) (old new : List ℕ) → AreBegun Finds folder all left old new → length left ≡ 0
    → (lines : List ℕ) × AreListLines Finds folder all lines × (new ≡ old ++ lines)
begun_all Finds folder all [] old new begun none = (begun.done, subst (AreListLines Finds folder all) (append-nil begun.done) (begun.goes [] refl), begun.is)
begun_all Finds folder all (root ∷ left) old new begun none = absurd (omega (arith, none))
