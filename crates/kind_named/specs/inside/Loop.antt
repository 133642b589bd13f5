-- The glider, and the main run.
use Rattle.std.specs.Prelude.{ℕ, List, [], ◌∷◌, ◌≡◌, ◌%◌, ◌≤◌, length, Some}
use Rattle.machine_text.specs.declared.table.Sym.{Sym}
use Rattle.kind_named.specs.inside.Tokens.{Glides, tokens_left, machine, leftward, Visits, RopesBelow}
use Rattle.kind_named.specs.declared.tokens.Token.{Token}
use Rattle.kind_named.specs.declared.tokens.Token.TheVariants.{X, Y, Cut, Separator}
use Rattle.law_turing.specs.Terms.{Config, from}
use Rattle.law_machines.specs.Terms.{Zipper, Describes, blank_zipper, Comes, Goes}
use Rattle.kind_named.specs.declared.visit.Answer.TheVariants.{A}
use Rattle.kind_named.specs.declared.tokens.Beyond.{Beyond}
use Rattle.kind_named.specs.declared.tokens.Beyond.TheVariants.{Blank}

-- The glider by its tokens, and what it leaves behind.
unfoldable pub glider_tokens : List Token
glider_tokens =
    Separator 1 ∷ X 15281 ∷ Cut ∷ X 20691 ∷ Separator 2 ∷ X 15278 ∷ Cut ∷ X 20696 ∷ Cut ∷ Cut ∷ X 15267 ∷
    Cut ∷ X 20719 ∷ Separator 2 ∷ X 15222 ∷ Cut ∷ X 20808 ∷ Cut ∷ Cut ∷ X 15043 ∷ Cut ∷ X 21168 ∷
    Separator 0 ∷ X 14324 ∷ Cut ∷ X 22605 ∷ Separator 1 ∷ X 11449 ∷ Cut ∷ X 28350 ∷ Cut ∷ X 1 ∷ Cut ∷
    X 7711 ∷ Cut ∷ []

-- the glider, before its group of words x
abbrev pub glider_word : List Sym → List Sym
glider_word l = tokens_left 0 [] glider_tokens l

-- what it leaves behind
unfoldable pub glider_block : List ℕ
glider_block = 6153 ∷ 3077 ∷ 601 ∷ 61653 ∷ 144285 ∷ []

-- the numbers of its period: how many visits, by how much its group falls; and the gap behind it
abbrev pub glider_visits : ℕ
glider_visits = 215779

abbrev pub glider_fall : ℕ
glider_fall = 107892

abbrev pub glider_gap : ℕ
glider_gap = 144243

-- what is tested when the check begins
abbrev pub GliderGlides : Type 0
GliderGlides = Glides glider_word glider_gap glider_visits glider_fall glider_block

-- what stands behind its tokens after a period, the gap and the block
unfoldable pub glider_end : List Token
glider_end =
    Y 0 ∷ Cut ∷ Cut ∷ X 144243 ∷ Cut ∷ X 6153 ∷ Cut ∷ X 3077 ∷ Cut ∷ X 601 ∷ Cut ∷ X 61653 ∷ Cut ∷ X 144285 ∷ []

-- The main run, from return to return: nothing stands on the right of the head.

-- so many visits, all answered by A
pub record VisitsOften (n : ℕ) (old new : List (List ℕ)) (before after : List Token) : Type 0 where
  pub within : RopesBelow (length new) after
  pub run : (b : ℕ) → b % 2 ≡ 0 → (l : List Sym) → Visits A n (tokens_left b old before l) (tokens_left b new after l)

-- one round: a visit, and the turn at the right end
pub record GoesRound (beyond : Beyond) (old new : List (List ℕ)) (before after : List Token) : Type 0 where
  pub within : RopesBelow (length new) after
  pub run : (l : List Sym) → (beyond ≡ Blank → l ≡ []) →
      Goes machine (leftward (tokens_left 0 old before l) []) (leftward (tokens_left 0 new after l) [])

-- one turn: a round, or a jump, behind which something else may stand beyond the tokens
pub record MakesTurn (beyond beyond' : Beyond) (old new : List (List ℕ)) (before after : List Token) : Type 0 where
  pub within : RopesBelow (length new) after
  pub run : (l : List Sym) → (beyond ≡ Blank → l ≡ []) → (k : List Sym) × (beyond' ≡ Blank → k ≡ []) ×
      Goes machine (leftward (tokens_left 0 old before l) []) (leftward (tokens_left 0 new after k) [])

-- in at least n steps
pub record ComesAfter (n : ℕ) (z w : Zipper) : Type 0 where
  pub run : (c : Config) → Describes z c → (k : ℕ) × (n ≤ k) × (d : Config) × (from machine k c ≡ Some d) ×
      Describes w d

-- the run from the blank tape comes here, in at least as many steps as there were turns
pub record RunReaches (turns : ℕ) (beyond : Beyond) (ropes : List (List ℕ)) (lefts : List Token) : Type 0 where
  pub within : RopesBelow (length ropes) lefts
  pub half : List Sym
  pub blank : beyond ≡ Blank → half ≡ []
  pub run : ComesAfter turns blank_zipper (leftward (tokens_left 0 ropes lefts half) [])

-- what is known at each turn: a period of the glider is as it is said to be, and the run is here
pub record OnMainRun (turns : ℕ) (beyond : Beyond) (ropes : List (List ℕ)) (lefts rights : List Token) : Type 0 where
  pub glides : GliderGlides
  pub empty : rights ≡ []
  pub reaches : RunReaches turns beyond ropes lefts

-- from these tokens, whatever stands beyond them, the run comes to the same tokens with something else beyond them
pub record Repeats (tokens : List Token) : Type 0 where
  pub run : (l : List Sym) → (k : List Sym) ×
      Goes machine (leftward (tokens_left 0 [] tokens l) []) (leftward (tokens_left 0 [] tokens k) [])

-- on the way there
pub record OnTheWay (tokens : List Token) (ropes : List (List ℕ)) (lefts : List Token) : Type 0 where
  pub within : RopesBelow (length ropes) lefts
  pub run : (l : List Sym) →
      Comes machine (leftward (tokens_left 0 [] tokens l) []) (leftward (tokens_left 0 ropes lefts l) [])
