-- Words of half tapes, visits and jumps, and ropes and tokens.
use Rattle.std.specs.Prelude.{◌≡◌, ℕ, zero, suc, ◌-◌, ◌≤◌, ◌%◌, List, [], ◌∷◌, ◌+◌, ◌/◌, ◌++◌, ◌<◌, length, get_or, true, Result, OnOk}
use Rattle.machine_text.specs.declared.table.Sym.{Sym}
use Rattle.machine_text.specs.declared.table.Sym.TheVariants.{Zero, One}
use Rattle.machine_text.specs.Terms.{entry_of}
use Rattle.law_turing.specs.Terms.{Machine}
use Rattle.law_machines.specs.Terms.{Zipper, AtLeft, AtRight, Comes}
use Rattle.kind_named.specs.Kind.{skelet1}
use Rattle.kind_named.specs.declared.visit.Answer.{Answer}
use Rattle.kind_named.specs.declared.visit.Answer.TheVariants.{A, C}
use Rattle.kind_named.specs.declared.ropes.Node.{Node}
use Rattle.kind_named.specs.declared.ropes.Node.TheVariants.{Group, Joined, Repeated}
use Rattle.kind_named.specs.declared.ropes.Piece.{Piece}
use Rattle.kind_named.specs.declared.ropes.Opened.{Opened}
use Rattle.kind_named.specs.declared.ropes.Opened.TheVariants as opened
use Rattle.kind_named.specs.declared.tokens.Heading.{Heading}
use Rattle.kind_named.specs.declared.tokens.Heading.TheVariants.{Left, Right}
use Rattle.kind_named.specs.declared.tokens.Beyond.{Beyond}
use Rattle.kind_named.specs.declared.tokens.Beyond.TheVariants.{Blank}
use Rattle.kind_named.specs.declared.run.GivenUp.{GivenUp}
use Rattle.kind_named.specs.declared.tokens.Token.{Token}
use Rattle.kind_named.specs.declared.tokens.Token.TheVariants.{X, Y, Cut, Separator, Rope, Wound}

-- The words that half tapes of Skelet 1 are made of. A half tape is the list of its cells from the head outwards, so a word
-- on the left is written backwards.
abbrev pub machine : Machine
machine = entry_of skelet1

-- an x exchanges A and C
abbrev pub other_answer : Answer → Answer
other_answer A = C
other_answer C = A

abbrev pub state_number : Answer → ℕ
state_number A = 0
state_number C = 2

-- the state after so many words x
unfoldable pub turned : Answer → ℕ → Answer
turned a zero = a
turned a (suc n) = turned (other_answer a) n

-- The head between two half tapes: it goes left in D, with 11 behind it (L << R), or right in A or C (L A> R, L C> R).
abbrev pub leftward : List Sym → List Sym → Zipper
leftward l r = AtLeft l 3 (One ∷ One ∷ r)

abbrev pub rightward : Answer → List Sym → List Sym → Zipper
rightward a l r = AtRight l (state_number a) r

-- on the left: the word x, 101, so many times; the word c, 10; the separators 1, 100, 11 and 1010
unfoldable pub xs_left : ℕ → List Sym → List Sym
xs_left zero l = l
xs_left (suc n) l = One ∷ Zero ∷ One ∷ xs_left n l

abbrev pub c_left : List Sym → List Sym
c_left l = Zero ∷ One ∷ l

abbrev pub separator_left : ℕ → List Sym → List Sym
separator_left zero l = One ∷ l
separator_left (suc zero) l = Zero ∷ Zero ∷ One ∷ l
separator_left (suc (suc zero)) l = One ∷ One ∷ l
separator_left (suc (suc (suc d))) l = c_left (c_left l)

-- on the right: x, 011, so many times; c, 01
unfoldable pub xs_right : ℕ → List Sym → List Sym
xs_right zero r = r
xs_right (suc n) r = Zero ∷ One ∷ One ∷ xs_right n r

abbrev pub c_right : List Sym → List Sym
c_right r = Zero ∷ One ∷ r

-- a rope: c x^g for each of a list of numbers, in the order of the tape
unfoldable pub rope_left : List ℕ → List Sym → List Sym
rope_left [] l = l
rope_left (g ∷ gs) l = rope_left gs (xs_left g (c_left l))

unfoldable pub rope_right : List ℕ → List Sym → List Sym
rope_right [] r = r
rope_right (g ∷ gs) r = c_right (xs_right g (rope_right gs r))

-- a rope that was read in C: 100 x c x^(g - 2) for each
unfoldable pub wound_left : List ℕ → List Sym → List Sym
wound_left [] l = l
wound_left (g ∷ gs) l = wound_left gs (xs_left (g - 2) (c_left (xs_left 1 (separator_left 1 l))))

-- each number is odd; each is 3 or more
abbrev pub AreOdd : List ℕ → Type 0
AreOdd [] = Unit {0}
AreOdd (g ∷ gs) = (g % 2 ≡ 1) × AreOdd gs

abbrev pub AreLong : List ℕ → Type 0
AreLong [] = Unit {0}
AreLong (g ∷ gs) = (3 ≤ g) × AreLong gs

-- Visits: the head comes into a half tape on the left, and goes back to the right in state A or C, its answer, whatever
-- is on the right.

-- one visit of l, which leaves k
pub record AnswersBy (a : Answer) (l k : List Sym) : Type 0 where
  pub run : (r : List Sym) → Comes machine (leftward l r) (rightward a k r)

-- so many visits one after another, each with the same answer
abbrev pub VisitChain : Answer → ℕ → List Sym → List Sym → Type 0
VisitChain a zero l k = l ≡ k
VisitChain a (suc n) l k = (j : List Sym) × AnswersBy a l j × VisitChain a n j k

pub record Visits (a : Answer) (n : ℕ) (l k : List Sym) : Type 0 where
  pub chain : VisitChain a n l k

-- Jumps: what many visits make of a separator, and of the glider.

-- the answer of a separator by its digit
abbrev pub separator_answer : ℕ → Answer
separator_answer zero = A
separator_answer (suc d) = other_answer (separator_answer d)

-- what v visits of a separator of the digit d take of the words x before it: one for each even number from d on
abbrev pub paid : ℕ → ℕ → ℕ
paid d v = (d + v + 1) / 2 - (d + 1) / 2

-- a rope so many times
abbrev pub rope_times : ℕ → List ℕ → List ℕ
rope_times zero gs = []
rope_times (suc k) gs = gs ++ rope_times k gs

-- The glider: words g, then x^b, cc and x^gap. In a period of vp visits b falls by bp, and a rope j comes behind it, whatever
-- is beyond it, which is l before and u behind.
abbrev pub glider_at : (List Sym → List Sym) → ℕ → ℕ → List Sym → List Sym
glider_at g gap b l = xs_left gap (separator_left 3 (xs_left b (g l)))

pub record Glides (g : List Sym → List Sym) (gap vp bp : ℕ) (j : List ℕ) : Type 0 where
  pub even : bp % 2 ≡ 0
  pub odd : AreOdd j
  pub run : (b : ℕ) → b % 2 ≡ 0 → (l : List Sym) → (u : List Sym) ×
      Visits A vp (glider_at g gap (bp + b) l) (rope_left j (glider_at g gap b u))

-- What ropes mean: for each, how many words x its groups have. A rope is made of earlier ones, and is never changed.

-- the groups of the rope of a number
abbrev pub groups_at : List (List ℕ) → ℕ → List ℕ
groups_at ropes i = get_or ropes i []

-- the groups of a rope by how it is made
abbrev pub node_groups : List (List ℕ) → Node → List ℕ
node_groups ropes (Group g) = g ∷ []
node_groups ropes (Joined a b) = groups_at ropes a ++ groups_at ropes b
node_groups ropes (Repeated a n) = rope_times n (groups_at ropes a)

-- all ropes, where some are there already
unfoldable pub ropes_of : List (List ℕ) → List Piece → List (List ℕ)
ropes_of ropes [] = ropes
ropes_of ropes (p ∷ ps) = ropes_of (ropes ++ node_groups ropes p.node ∷ []) ps

-- ropes were added, and the others are as they were
pub record RopesAdded (old new : List (List ℕ)) : Type 0 where
  pub keeps : (i : ℕ) → i < length old → groups_at new i ≡ groups_at old i
  pub grows : length old ≤ length new

-- a rope is made of ropes below n
abbrev pub RefersBelow : ℕ → Node → Type 0
RefersBelow n (Group g) = Unit {0}
RefersBelow n (Joined a b) = (a < n) × (b < n)
RefersBelow n (Repeated a k) = a < n

-- what may be added
pub record IsPiece (ropes : List (List ℕ)) (p : Piece) : Type 0 where
  pub refers : RefersBelow (length ropes) p.node
  pub odd : AreOdd (node_groups ropes p.node)
  pub long : p.is_long ≡ true → AreLong (node_groups ropes p.node)

-- the rope of a number is what it is made of
pub record HasGroups (ropes : List (List ℕ)) (i : ℕ) (p : Piece) : Type 0 where
  pub refers : RefersBelow i p.node
  pub is : groups_at ropes i ≡ node_groups ropes p.node
  pub long : p.is_long ≡ true → AreLong (groups_at ropes i)

pub record IsArena (ps : List Piece) : Type 0 where
  pub means : (i : ℕ) (p : Piece) → i < length ps → p ≡ get_or ps i p → HasGroups (ropes_of [] ps) i p
  pub odd : (i : ℕ) → AreOdd (groups_at (ropes_of [] ps) i)

-- the two parts of a rope, or its one group
abbrev pub OpensTo : List (List ℕ) → List ℕ → Opened → Type 0
OpensTo ropes gs (opened.Group g) = gs ≡ g ∷ []
OpensTo ropes gs (opened.Two a b) = (a < length ropes) × (b < length ropes) ×
    (gs ≡ groups_at ropes a ++ groups_at ropes b)

-- What tokens mean: words of the left half tape and of the right one. A list of tokens ends with the one nearest to the
-- head, so it is pushed to and popped from.

-- the word of a token before a half tape; b is how many words x more a token Y has
abbrev pub token_left : ℕ → List (List ℕ) → Token → List Sym → List Sym
token_left b ropes (X n) l = xs_left n l
token_left b ropes (Y n) l = xs_left (n + b) l
token_left b ropes Cut l = c_left l
token_left b ropes (Separator d) l = separator_left d l
token_left b ropes (Rope i) l = rope_left (groups_at ropes i) l
token_left b ropes (Wound i) l = wound_left (groups_at ropes i) l

-- the same on the right, where there are no separators and no wound ropes
abbrev pub token_right : ℕ → List (List ℕ) → Token → List Sym → List Sym
token_right b ropes (X n) r = xs_right n r
token_right b ropes (Y n) r = xs_right (n + b) r
token_right b ropes Cut r = c_right r
token_right b ropes (Separator d) r = r
token_right b ropes (Rope i) r = rope_right (groups_at ropes i) r
token_right b ropes (Wound i) r = r

-- the words of tokens before what is beyond them
unfoldable pub tokens_left : ℕ → List (List ℕ) → List Token → List Sym → List Sym
tokens_left b ropes [] l = l
tokens_left b ropes (t ∷ ts) l = tokens_left b ropes ts (token_left b ropes t l)

unfoldable pub tokens_right : ℕ → List (List ℕ) → List Token → List Sym → List Sym
tokens_right b ropes [] r = r
tokens_right b ropes (t ∷ ts) r = tokens_right b ropes ts (token_right b ropes t r)

-- the rope of a token is one of the first n
abbrev pub RopeBelow : ℕ → Token → Type 0
RopeBelow n (X k) = Unit {0}
RopeBelow n (Y k) = Unit {0}
RopeBelow n Cut = Unit {0}
RopeBelow n (Separator d) = Unit {0}
RopeBelow n (Rope i) = i < n
RopeBelow n (Wound i) = i < n

unfoldable pub RopesBelow : ℕ → List Token → Type 0
RopesBelow n [] = Unit {0}
RopesBelow n (t ∷ ts) = RopeBelow n t × RopesBelow n ts

-- the rope of a number is there, and so are those of tokens
pub record RopeAndTokensBelow (ropes : List (List ℕ)) (i : ℕ) (tokens : List Token) : Type 0 where
  pub rope : i < length ropes
  pub within : RopesBelow (length ropes) tokens

-- one token has the word of two, the top one and one put before it, on either side
pub record Merges (top token both : Token) : Type 0 where
  pub left : (b : ℕ) (ropes : List (List ℕ)) (l : List Sym) →
      token_left b ropes both l ≡ token_left b ropes token (token_left b ropes top l)
  pub right : (b : ℕ) (ropes : List (List ℕ)) (r : List Sym) →
      token_right b ropes both r ≡ token_right b ropes token (token_right b ropes top r)
  pub below : (n : ℕ) → RopeBelow n top → RopeBelow n token → RopeBelow n both

-- a token was put before a half tape: its word is there, and the rest is as it was
pub record PutsLeft (old new : List (List ℕ)) (token : Token) (before after : List Token) : Type 0 where
  pub within : RopesBelow (length new) after
  pub text : (b : ℕ) (l : List Sym) → tokens_left b new after l ≡ token_left b old token (tokens_left b old before l)

pub record PutsRight (old new : List (List ℕ)) (token : Token) (before after : List Token) : Type 0 where
  pub within : RopesBelow (length new) after
  pub text : (b : ℕ) (r : List Sym) → tokens_right b new after r ≡ token_right b old token (tokens_right b old before r)

-- the same half tape, in other tokens
pub record SameLeft (old new : List (List ℕ)) (before after : List Token) : Type 0 where
  pub within : RopesBelow (length new) after
  pub text : (b : ℕ) (l : List Sym) → tokens_left b new after l ≡ tokens_left b old before l

-- ropes were opened at most: there may be new ones, and where no error came it is the same half tape
pub record OnlyOpens {A : Type 0} (result : Result A GivenUp) (old new : List (List ℕ))
    (before after : List Token) : Type 0 where
  pub extends : RopesAdded old new
  pub same : OnOk result (SameLeft old new before after)

-- these tokens were taken off the end
pub record EndsWith (tail : List Token) (old new : List (List ℕ)) (before after : List Token) : Type 0 where
  pub within : RopesBelow (length new) after
  pub text : (b : ℕ) (l : List Sym) → tokens_left b old before l ≡ tokens_left b new tail (tokens_left b new after l)

-- so many words x were taken off
pub record Pays (ropes : List (List ℕ)) (count : ℕ) (before after : List Token) : Type 0 where
  pub within : RopesBelow (length ropes) after
  pub text : (b : ℕ) (l : List Sym) → tokens_left b ropes before l ≡ xs_left count (tokens_left b ropes after l)

-- Tokens on both sides, and where the head goes between them.
pub record Spot : Type 0 where
  pub ropes : List (List ℕ)
  pub lefts : List Token
  pub rights : List Token
  pub heading : Heading

abbrev pub zipper_to : Heading → List Sym → List Sym → Zipper
zipper_to Left l r = leftward l r
zipper_to (Right a) l r = rightward a l r

-- all of the tape, where l is beyond the tokens on the left, and r on the right
abbrev pub zipper_at : ℕ → Spot → List Sym → List Sym → Zipper
zipper_at b s l r = zipper_to s.heading (tokens_left b s.ropes s.lefts l) (tokens_right b s.ropes s.rights r)

pub record BothRopesBelow (ropes : List (List ℕ)) (lefts rights : List Token) : Type 0 where
  pub on_left : RopesBelow (length ropes) lefts
  pub on_right : RopesBelow (length ropes) rights

-- the run comes from what start makes of two half tapes to new ones
pub record PassesTo (start : List Sym → List Sym → Zipper) (heading : Heading) (old new : List (List ℕ))
    (lefts lefts' rights rights' : List Token) : Type 0 where
  pub sound : BothRopesBelow new lefts' rights'
  pub run : (b : ℕ) → b % 2 ≡ 0 → (l r : List Sym) →
      Comes machine (start (tokens_left b old lefts l) (tokens_right b old rights r))
      (zipper_to heading (tokens_left b new lefts' l) (tokens_right b new rights' r))

-- the run comes from a separator of the digit d before a half tape, whatever is on the right, to the answer a there
pub record TurnsAt (d : ℕ) (a : Answer) (old new : List (List ℕ)) (before after : List Token) : Type 0 where
  pub within : RopesBelow (length new) after
  pub run : (b : ℕ) (l r : List Sym) →
      Comes machine (leftward (separator_left d (tokens_left b old before l)) r)
      (rightward a (tokens_left b new after l) r)

-- the run comes from before a rope on the right, in state C, to behind it
pub record Winds (gs : List ℕ) (old new : List (List ℕ)) (before after : List Token) : Type 0 where
  pub within : RopesBelow (length new) after
  pub run : (b : ℕ) (l r : List Sym) →
      Comes machine (rightward C (tokens_left b old before l) (rope_right gs r))
      (rightward C (tokens_left b new after l) r)

-- a token that has a word on both sides
abbrev pub IsPlain : Token → Type 0
IsPlain (X n) = Unit {0}
IsPlain (Y n) = Unit {0}
IsPlain Cut = Unit {0}
IsPlain (Separator d) = ⊥
IsPlain (Rope i) = Unit {0}
IsPlain (Wound i) = ⊥

-- the run comes from one spot to another, whatever is beyond their tokens; or with blanks alone beyond them on the left
pub record Leads (beyond : Beyond) (s t : Spot) : Type 0 where
  pub sound : BothRopesBelow t.ropes t.lefts t.rights
  pub run : (b : ℕ) → b % 2 ≡ 0 → (l r : List Sym) → (beyond ≡ Blank → l ≡ []) →
      Comes machine (zipper_at b s l r) (zipper_at b t l r)

-- one visit of a left half tape, with this answer
pub record Visited (beyond : Beyond) (a : Answer) (old new : List (List ℕ)) (before after : List Token) : Type 0 where
  pub within : RopesBelow (length new) after
  pub run : (b : ℕ) → b % 2 ≡ 0 → (l : List Sym) → (beyond ≡ Blank → l ≡ []) →
      AnswersBy a (tokens_left b old before l) (tokens_left b new after l)

-- so many visits, each with the answer A; beyond the tokens there may be something else behind them
pub record JumpsTo (beyond beyond' : Beyond) (t : ℕ) (old new : List (List ℕ))
    (before after : List Token) : Type 0 where
  pub within : RopesBelow (length new) after
  pub run : (b : ℕ) → b % 2 ≡ 0 → (l : List Sym) → (beyond ≡ Blank → l ≡ []) →
      (k : List Sym) × (beyond' ≡ Blank → k ≡ []) × Visits A t (tokens_left b old before l) (tokens_left b new after k)
