-- Bytes that are moved piece by piece, frames that are carried, and what came and was listened to.
use Rattle.std.proofs.Common.{◌≡◌, ◌≤◌, ◌+◌, ◌-◌, ℕ, List, [], ◌++◌, length, take, drop, Option, Result, Ok, Err, refl, sym, ap, ◌∙◌, append_assoc, append-nil, subst, arith, length-append, length-drop, take-append-drop, inl, inr, ◌∷◌, None}
use Rattle.std.specs.Prelude.{IfErr, IsErrAnd, min, OnErr}
use Rattle.std.proofs.lemmas.List.{take_all, length-take}
use Rattle.std.specs.Io.KnownBytes.{Appends, Consumes}
use Rattle.std.proofs.KnownBytes.{Appends-trans, Consumes-nil, Consumes-trans}
use Rattle.wire.specs.Terms.{piece_byte_limit, MemoryLink, Answering}
use Rattle.cmd_options.specs.declared.ended.Ended.{Ended}
use Rattle.cmd_options.specs.declared.ended.Ended.TheVariants.{Stream, NoMemory}
use Rattle.cmd_nodes.specs.Moving.{Way, way, Went, HasMoved, StopsMoving, IsPartlyWritten, HasRead, IsPartlyRead, AreFrames, Delivers, counted_on, delivered_of, left_of}
use Rattle.text.specs.Terms.{BeginsWithLine}
use Rattle.peers.specs.Terms.{Incoming, Taking, TakesAsBefore, noted, Exchange, Served, all_came, noted_if, served, unheard, ServesOne}
use Rattle.peers.specs.declared.guarded.Conduct.{Conduct}
use Rattle.peers.proofs.Exchanges.{noted_none, serves_none, serves_one, noted_on, serves_on}
use Rattle.lease_core.specs.Terms.{Coordinating, On}
use Rattle.cmd_nodes.specs.Served.{HasListened, Listens, ListensFrom, ListensUntil, Traffic}

-- Bytes that are moved one piece after another.

-- one after another
went_on : (w1 c1 d1 w2 c2 d2 : List ℕ) (a b e : Way) → Went w1 c1 d1 a b → Went w2 c2 d2 b e → Went (w1 ++ w2) (c1 ++ c2) (d1 ++ d2) a e
went_on w1 c1 d1 w2 c2 d2 a b e x y = record {
  writes = Appends-trans a.given b.given e.given w1 w2 x.writes y.writes;
  reads = Consumes-trans a.ready b.ready e.ready c1 c2 x.reads y.reads;
  delivers = y.delivers ∙ (ap (λ (l : List ℕ). l ++ d2) x.delivers ∙ append_assoc a.waiting d1 d2);
}

pub moved_on : (s1 s2 : List ℕ) (a b e : Way) → HasMoved s1 a b → HasMoved s2 b e → HasMoved (s1 ++ s2) a e
moved_on s1 s2 a b e x y = (x.0 ++ y.0, length-append x.0 y.0 ∙ (ap (λ n. n + length y.0) x.1 ∙ (ap (λ n. length s1 + n) y.1 ∙ sym (length-append s1 s2))), went_on s1 x.0 x.0 s2 y.0 y.0 a b e x.2 y.2)

-- what was moved before a fault, and what stands behind
pub broken_on : (fault : Ended) (done piece rest sent : List ℕ) (a b e : Way) → HasMoved done a b → StopsMoving fault piece b e → sent ≡ done ++ (piece ++ rest) → StopsMoving fault sent a e
broken_on fault done piece rest sent a b e x y is =
    let joined : (x.0 ++ y.delivered) ++ y.lost ≡ x.0 ++ (y.delivered ++ y.lost) = append_assoc x.0 y.delivered y.lost in
    let came : length ((x.0 ++ y.delivered) ++ y.lost) ≡ length done + length (y.delivered ++ y.lost) =
    ap length joined ∙ (length-append x.0 (y.delivered ++ y.lost) ∙ ap (λ n. n + length (y.delivered ++ y.lost)) x.1) in
    let wrote : length (done ++ y.written) ≡ length done + length y.written = length-append done y.written in
    let less = y.no_more in
    let few = y.under_way in
    record {
      written = done ++ y.written;
      unwritten = y.unwritten ++ rest;
      is_sent =
          is ∙ (ap (λ (l : List ℕ). done ++ (l ++ rest)) y.is_sent
          ∙ (ap (λ (l : List ℕ). done ++ l) (append_assoc y.written y.unwritten rest) ∙ sym (append_assoc done y.written (y.unwritten ++ rest))));
      delivered = x.0 ++ y.delivered;
      lost = y.lost;
      went =
          subst (λ (l : List ℕ). Went (done ++ y.written) l (x.0 ++ y.delivered) a e) (sym joined)
          (went_on done x.0 x.0 y.written (y.delivered ++ y.lost) y.delivered a b e x.2 y.went);
      no_more = omega (arith, came, wrote, less);
      under_way = omega (arith, came, wrote, few);
      loses = y.loses;
      faults = y.faults;
    }

-- a piece of which a beginning was written, and nothing read
pub broken_writing : (piece waiting : List ℕ) (old new ready : Option (List ℕ)) → length piece ≤ piece_byte_limit → IsPartlyWritten piece old new
    → StopsMoving Stream piece (way old ready waiting) (way new ready waiting)
broken_writing piece waiting old new ready few x =
    let e : length piece ≡ length x.0 + length x.1 = ap length x.2 ∙ length-append x.0 x.1 in
    record {
      written = x.0;
      unwritten = x.1;
      is_sent = x.2;
      delivered = [];
      lost = [];
      went = record { writes = x.3; reads = Consumes-nil ready; delivers = sym (append-nil waiting) };
      no_more = omega arith;
      under_way = omega (arith, e, few);
      loses = λ _. refl;
      faults = inl refl;
    }

-- a piece that was written, and of which a beginning was read
pub broken_reading : (fault : Ended) (piece waiting inbox : List ℕ) (old new ready left : Option (List ℕ)) → length piece ≤ piece_byte_limit → Appends old new piece
    → IsPartlyRead fault (length piece) ready waiting left inbox → StopsMoving fault piece (way old ready waiting) (way new left inbox)
broken_reading fault piece waiting inbox old new ready left few appended x = record {
  written = piece;
  unwritten = [];
  is_sent = sym (append-nil piece);
  delivered = x.delivered;
  lost = x.lost;
  went = record { writes = appended; reads = x.reads; delivers = x.delivers };
  no_more = x.no_more;
  under_way = omega (arith, few);
  loses = x.loses;
  faults = x.faults;
}

-- the rest of some bytes, cut out to their end
rest_whole : (bytes : List ℕ) (n : ℕ) → take (length bytes - n) (drop n bytes) ≡ drop n bytes
rest_whole bytes n = take_all _ _ (omega (arith, length-drop n bytes))

-- a part of what is left is written
pub written_on : (piece written left : List ℕ) (n : ℕ) (a b e : Option (List ℕ)) → piece ≡ written ++ left → Appends a b written → Appends b e (take n left)
    → (done : List ℕ) × (piece ≡ done ++ take (length left - n) (drop n left)) × Appends a e done
written_on piece written left n a b e is x y = (
  written ++ take n left,
  is ∙ (ap (λ (l : List ℕ). written ++ l) (sym (take-append-drop n left) ∙ ap (λ (l : List ℕ). take n left ++ l) (sym (rest_whole left n)))
      ∙ sym (append_assoc written (take n left) (take (length left - n) (drop n left)))),
  Appends-trans a b e written (take n left) x y,
)

-- what holds of each fault that there may be holds of the one that there is
pub of_fault : {T E : Type 0} (r : Result T E) (P Q : E → Type 0) → IsErrAnd r Q → ((e : E) → Q e → P e) → IfErr r P
of_fault (Ok t) P Q is each = tt
of_fault (Err e) P Q is each = each e is

-- a link of which the inbox alone changes
pub inbox_alone : (a b e : MemoryLink) (w : List ℕ) → e ≡ record b { waiting = w } → b ≡ record a { waiting = b.waiting } → e ≡ record a { waiting = e.waiting }
inbox_alone a b e w p q =
    p ∙ (ap (λ (m : MemoryLink). record m { waiting = w }) q ∙ ap (λ (v : List ℕ). record a { waiting = v }) (sym (ap (λ (m : MemoryLink). m.waiting) p)))

-- more is read and delivered
pub read_on : (count n all : ℕ) (a b e : Option (List ℕ)) (w1 w2 w3 bytes : List ℕ) → HasRead count a w1 b w2 → length bytes ≡ n → count + n ≡ all → Consumes b e bytes → w3 ≡ w2 ++ bytes
    → HasRead all a w1 e w3
read_on count n all a b e w1 w2 w3 bytes x many sum consumes delivers = (
  x.0 ++ bytes,
  length-append x.0 bytes ∙ (ap (λ m. m + length bytes) x.1 ∙ (ap (λ m. count + m) many ∙ sum)),
  Consumes-trans a b e x.0 bytes x.2 consumes,
  delivers ∙ (ap (λ (l : List ℕ). l ++ bytes) x.3 ∙ append_assoc w1 x.0 bytes),
)

-- what a part of the buffer takes is no more than that part
pub took_within : (n left : ℕ) (new buf : List ℕ) → n ≤ length new → length new ≡ length (take left buf) → n ≤ left
took_within n left new buf less room =
    let part : length (take left buf) ≡ min left (length buf) = length-take left buf in
    omega (arith, less, room, part)

-- more is read, and not delivered
pub read_in_vain : (fault : Ended) (count all : ℕ) (a b e : Option (List ℕ)) (w1 w2 w3 bytes : List ℕ) → HasRead count a w1 b w2 → count + length bytes ≤ all → Consumes b e bytes
    → w3 ≡ w2 → fault ≡ NoMemory → IsPartlyRead fault all a w1 e w3
read_in_vain fault count all a b e w1 w2 w3 bytes x less consumes same is =
    let many : length (x.0 ++ bytes) ≡ count + length bytes = length-append x.0 bytes ∙ ap (λ m. m + length bytes) x.1 in
    record {
      delivered = x.0;
      lost = bytes;
      reads = Consumes-trans a b e x.0 bytes x.2 consumes;
      delivers = same ∙ x.3;
      no_more = omega (arith, many, less);
      loses = λ other. absurd (other is);
      faults = inr is;
    }

-- Frames that are fulfilled one after another.

-- a frame, and what is fulfilled behind it
pub carries_frame : (every : Option ℕ) (before after : ℕ) (text frame more delivered : List ℕ) → BeginsWithLine text frame more → Delivers every (counted_on before) more delivered after
    → Delivers every before text (left_of every before frame ++ delivered) after
carries_frame every before after text frame more delivered begins x = record {
  frames = frame ∷ x.frames;
  rest = x.rest;
  are_frames = (begins.one_line, more, begins.is, x.are_frames);
  is = ap (λ (l : List ℕ). left_of every before frame ++ l) x.is
      ∙ sym (append_assoc (left_of every before frame) (delivered_of every (counted_on before) x.frames) x.rest);
  count = x.count;
}

-- where none is lost all is delivered
all_left : (before : ℕ) (frames : List (List ℕ)) (text rest : List ℕ) → AreFrames frames text rest → delivered_of None before frames ++ rest ≡ text
all_left before [] text rest are = sym are.0
all_left before (frame ∷ frames) text rest are =
    append_assoc (frame ++ (10 ∷ [])) (delivered_of None (counted_on before) frames) rest
    ∙ (ap (λ (l : List ℕ). (frame ++ (10 ∷ [])) ++ l) (all_left (counted_on before) frames are.1 rest are.3)
    ∙ (append_assoc frame (10 ∷ []) are.1 ∙ sym are.2))

pub carries_all : (every : Option ℕ) (before after : ℕ) (sent delivered : List ℕ) → every ≡ None → Delivers every before sent delivered after → delivered ≡ sent
carries_all every before after sent delivered none x =
    x.is ∙ (ap (λ (o : Option ℕ). delivered_of o before x.frames ++ x.rest) none ∙ all_left before x.frames sent x.rest x.are_frames)

-- What came was listened to, one thing after another.
module _ {N : Type 0} (answers : Answering N) where
  -- nothing has come yet
  pub listens_none : (takes : Taking) (old : Served N) (before : Traffic) → Listens answers takes old old None before before
  listens_none takes old before = record { exchanges = []; serves = serves_none answers takes old before.sent before.sent (λ place. refl); came = noted_none before.arrived }

  -- this comes next
  pub listens_one : (takes : Taking) (old new : Served N) (exchange : Exchange) (before after : Traffic) → after.arrived ≡ noted before.arrived (exchange.came ∷ [])
      → ServesOne answers takes old exchange new before.sent after.sent → Listens answers takes old new None before after
  listens_one takes old new exchange before after came one = record {
    exchanges = exchange ∷ [];
    serves = serves_one answers takes old exchange new before.sent after.sent one;
    came = came;
  }

  -- or it brings a fault
  pub listens_fault : (takes : Taking) (old : Served N) (came : Option Incoming) (before after : Traffic) → after.arrived ≡ noted_if before.arrived came
      → ((place : ℕ) → after.sent place ≡ before.sent place) → ListensFrom answers takes old before after
  listens_fault takes old came before after comes unsent = (
    old,
    came,
    record {
      exchanges = [];
      serves = serves_none answers takes old before.sent after.sent unsent;
      came = comes ∙ ap (λ (a : Option (List Incoming)). noted_if a came) (noted_none before.arrived);
    },
  )

  -- what comes behind it
  pub listens_on : (takes takes' : Taking) (old at new : Served N) (last : Option Incoming) (before then after : Traffic) → Listens answers takes old at None before then
      → TakesAsBefore takes takes' → Listens answers takes' at new last then after → Listens answers takes old new last before after
  listens_on takes takes' old at new last before then after first same more = record {
    exchanges = first.exchanges ++ more.exchanges;
    serves = serves_on answers takes takes' same old at first.exchanges before.sent then.sent first.serves more.exchanges new after.sent more.serves;
    came = more.came
        ∙ ap (λ (a : Option (List Incoming)). noted_if a last)
        (ap (λ (a : Option (List Incoming)). noted a (all_came more.exchanges)) first.came ∙ noted_on before.arrived first.exchanges more.exchanges);
  }

-- whatever ended it
pub early_of : {A E P : Type 0} (r : Result A E) → P → OnErr r P
early_of (Ok x) p = tt
early_of (Err e) p = p

module _ (IsBegun : Coordinating → Type 0) (conduct : Conduct) (takes : Taking) (first : Coordinating) where
  -- a coordinator had begun
  pub has_begun : (begun : Option (List ℕ)) (before after : Traffic) → IsBegun first → ListensFrom On takes (served (unheard conduct first) begun []) before after
      → ListensUntil IsBegun conduct takes before after
  has_begun begun before after is listens = inr (first, is, begun, listens)

  -- and listened to its end
  pub until_end : (last : Coordinating) (text : Option (List ℕ)) (before after : Traffic) → IsBegun first → HasListened conduct takes first last text before after
      → ListensUntil IsBegun conduct takes before after
  until_end last text before after is listened = inr (first, is, listened.begun, (listened.new, None, listened.listens))
