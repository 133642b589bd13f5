-- What sections mean: words of the left half tape. A list of sections begins with the nearest one.
use Rattle.std.specs.Prelude.{◌≡◌, ℕ, ◌%◌, ◌<◌, List, [], ◌∷◌, length}
use Rattle.machine_text.specs.declared.table.Sym.{Sym}
use Rattle.kind_named.specs.inside.Tokens.{xs_left, c_left, separator_left, rope_left, groups_at, RopesAdded, Visits, tokens_left, RopesBelow}
use Rattle.kind_named.specs.declared.visit.Answer.{Answer}
use Rattle.kind_named.specs.declared.visit.Answer.TheVariants.{A}
use Rattle.kind_named.specs.declared.tokens.Token.{Token}
use Rattle.kind_named.specs.declared.jump.Section.{Section}
use Rattle.kind_named.specs.declared.jump.Section.TheVariants.{Group, Cut, Rope, Separator}

-- the word of a section before a half tape
abbrev pub section_left : List (List ℕ) → Section → List Sym → List Sym
section_left ropes (Group g) l = xs_left g l
section_left ropes Cut l = c_left l
section_left ropes (Rope i) l = rope_left (groups_at ropes i) l
section_left ropes (Separator d r) l = separator_left d (xs_left r l)

unfoldable pub sections_left : List (List ℕ) → List Section → List Sym → List Sym
sections_left ropes [] l = l
sections_left ropes (s ∷ ss) l = section_left ropes s (sections_left ropes ss l)

abbrev pub SectionRopeBelow : ℕ → Section → Type 0
SectionRopeBelow n (Group g) = Unit {0}
SectionRopeBelow n Cut = Unit {0}
SectionRopeBelow n (Rope i) = i < n
SectionRopeBelow n (Separator d r) = Unit {0}

unfoldable pub SectionsRopesBelow : ℕ → List Section → Type 0
SectionsRopesBelow n [] = Unit {0}
SectionsRopesBelow n (s ∷ ss) = SectionRopeBelow n s × SectionsRopesBelow n ss

-- the ropes of what is left of the half tape are there, and so are those of the sections that were taken off it
pub record TokensAndSectionsBelow (ropes : List (List ℕ)) (lefts : List Token) (taken : List Section) : Type 0 where
  pub within : RopesBelow (length ropes) lefts
  pub taken_within : SectionsRopesBelow (length ropes) taken

-- words went over from the left half tape, with start before it, to the sections: all together are the same
pub record TakesOff (start : List Sym → List Sym) (old new : List (List ℕ)) (before after : List Token)
    (taken taken' : List Section) : Type 0 where
  pub within : RopesBelow (length new) after
  pub taken_within : SectionsRopesBelow (length new) taken'
  pub text : (b : ℕ) (l : List Sym) →
      sections_left new taken' (tokens_left b new after l) ≡ sections_left old taken
      (start (tokens_left b old before l))

-- n visits of what is before a section, each with the answer a, are so many of both, each with another answer
pub record Rebuilds (s : Section) (a : Answer) (n : ℕ) (a' : Answer) (n' : ℕ) (old new : List (List ℕ))
    (before after : List Token) : Type 0 where
  pub within : RopesBelow (length new) after
  pub run : (b : ℕ) (l k : List Sym) → Visits a n k (tokens_left b old before l) →
      Visits a' n' (section_left old s k) (tokens_left b new after l)

-- a separator of the digit d was put before the left half tape
pub record PutsSeparator (d : ℕ) (ropes : List (List ℕ)) (before after : List Token) : Type 0 where
  pub within : RopesBelow (length ropes) after
  pub text : (b : ℕ) (l : List Sym) → tokens_left b ropes after l ≡ separator_left d (tokens_left b ropes before l)

-- some sections were put back, and the rest are to be
pub record Rebuilt (a : Answer) (n : ℕ) (a' : Answer) (n' : ℕ) (old new : List (List ℕ)) (before after : List Token)
    (taken rest : List Section) : Type 0 where
  pub extends : RopesAdded old new
  pub within : RopesBelow (length new) after
  pub rest_within : SectionsRopesBelow (length old) rest
  pub run : (b : ℕ) (l k : List Sym) → Visits a n k (tokens_left b old before l) →
      (j : List Sym) × (sections_left old taken k ≡ sections_left old rest j) ×
      Visits a' n' j (tokens_left b new after l)

-- what was before the sections, with the last of them, went over by t visits to what is there now
pub record Glided (t : ℕ) (old new : List (List ℕ)) (before after : List Token)
    (taken rest : List Section) : Type 0 where
  pub within : RopesBelow (length new) after
  pub rest_within : SectionsRopesBelow (length new) rest
  pub run : (b : ℕ) → b % 2 ≡ 0 → (l : List Sym) → (k u : List Sym) ×
      (sections_left new rest k ≡ sections_left old taken (tokens_left b old before l)) ×
      Visits A t k (tokens_left b new after u)
