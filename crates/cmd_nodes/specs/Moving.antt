-- Frames and bytes on their way from one end of a link to the other.
use Rattle.std.specs.Prelude.{◌≡◌, ℕ, ◌+◌, ◌%◌, ◌==◌, ◌&&◌, Bool, false, if◌then◌else◌, List, [], ◌∷◌, ◌++◌, Option, Some, None, nat_lt, ◌≢◌, ◌⊎◌, ◌≤◌, length}
use Rattle.std.specs.Io.KnownBytes.{Appends, Consumes}
use Rattle.text.specs.Terms.{HasNoNewline}
use Rattle.wire.specs.Terms.{piece_byte_limit}
use Rattle.cmd_options.specs.declared.ended.Ended.{Ended}
use Rattle.cmd_options.specs.declared.ended.Ended.TheVariants.{Stream, NoMemory}

-- Which frames of one direction of a link are lost.

-- of the first 1,000 frames every so many-th is lost; so many came before this one
abbrev pub is_lost : Option ℕ → ℕ → Bool
is_lost None before = false
is_lost (Some every) before = nat_lt before 1000 && (nat_lt 0 every && ((before + 1) % every == 0))

-- how many have come with one more, as far as they are counted
abbrev pub counted_on : ℕ → ℕ
counted_on before = if nat_lt before 1000 then before + 1 else before

abbrev pub counted_after : ℕ → List (List ℕ) → ℕ
counted_after before [] = before
counted_after before (frame ∷ frames) = counted_after (counted_on before) frames

-- a frame with its newline, or nothing where it is lost
abbrev pub left_of : Option ℕ → ℕ → List ℕ → List ℕ
left_of every before frame = if is_lost every before then [] else frame ++ (10 ∷ [])

-- those that are left of the frames that come after so many
abbrev pub delivered_of : Option ℕ → ℕ → List (List ℕ) → List ℕ
delivered_of every before [] = []
delivered_of every before (frame ∷ frames) = left_of every before frame ++ delivered_of every (counted_on before) frames

-- lines, each with its newline, and none of them with another
abbrev pub AreFrames : List (List ℕ) → List ℕ → List ℕ → Type 0
AreFrames [] text rest = (text ≡ rest) × HasNoNewline rest
AreFrames (frame ∷ frames) text rest = HasNoNewline frame × (more : List ℕ) × (text ≡ frame ++ (10 ∷ more))
    × AreFrames frames more rest

-- what was sent is frames, and perhaps a beginning of one more; the frames are delivered but for those that are lost,
-- and so is that beginning
pub record Delivers (every : Option ℕ) (before : ℕ) (sent delivered : List ℕ) (after : ℕ) : Type 0 where
  pub frames : List (List ℕ)
  pub rest : List ℕ
  pub are_frames : AreFrames frames sent rest
  pub is : delivered ≡ delivered_of every before frames ++ rest
  pub count : after ≡ counted_after before frames

-- What has become of bytes that were to be moved from one end of a link to the other.

-- what the stream's near end was given, what its far end has still to give, as far as they are known, and what waits in
-- the inbox
pub record Way : Type 0 where
  pub given : Option (List ℕ)
  pub ready : Option (List ℕ)
  pub waiting : List ℕ

abbrev pub way : Option (List ℕ) → Option (List ℕ) → List ℕ → Way
way given ready waiting = record { given = given; ready = ready; waiting = waiting }

-- some bytes were written, some came out at the other end, and some were delivered
pub record Went (written came delivered : List ℕ) (old new : Way) : Type 0 where
  pub writes : Appends old.given new.given written
  pub reads : Consumes old.ready new.ready came
  pub delivers : new.waiting ≡ old.waiting ++ delivered

-- all was written, and as many bytes came and were delivered
abbrev pub HasMoved : List ℕ → Way → Way → Type 0
HasMoved sent old new = (came : List ℕ) × (length came ≡ length sent) × Went sent came came old new

-- a beginning was written; of that no more came, and at most a piece of it was still under way; what came was delivered,
-- but for what no memory was had for
pub record StopsMoving (fault : Ended) (sent : List ℕ) (old new : Way) : Type 0 where
  pub written : List ℕ
  pub unwritten : List ℕ
  pub is_sent : sent ≡ written ++ unwritten
  pub delivered : List ℕ
  pub lost : List ℕ
  pub went : Went written (delivered ++ lost) delivered old new
  pub no_more : length (delivered ++ lost) ≤ length written
  pub under_way : length written ≤ length (delivered ++ lost) + piece_byte_limit
  pub loses : fault ≢ NoMemory → lost ≡ []
  pub faults : (fault ≡ Stream) ⊎ (fault ≡ NoMemory)

abbrev pub HasWritten : List ℕ → Option (List ℕ) → Option (List ℕ) → Type 0
HasWritten piece old new = Appends old new piece

abbrev pub IsPartlyWritten : List ℕ → Option (List ℕ) → Option (List ℕ) → Type 0
IsPartlyWritten piece old new = (written : List ℕ) × (unwritten : List ℕ) × (piece ≡ written ++ unwritten)
    × Appends old new written

abbrev pub HasRead : ℕ → Option (List ℕ) → List ℕ → Option (List ℕ) → List ℕ → Type 0
HasRead count old waiting new inbox = (came : List ℕ) × (length came ≡ count) × Consumes old new came
    × (inbox ≡ waiting ++ came)

pub record IsPartlyRead (fault : Ended) (count : ℕ) (old : Option (List ℕ)) (waiting : List ℕ) (new : Option (List ℕ))
    (inbox : List ℕ) : Type 0 where
  pub delivered : List ℕ
  pub lost : List ℕ
  pub reads : Consumes old new (delivered ++ lost)
  pub delivers : inbox ≡ waiting ++ delivered
  pub no_more : length (delivered ++ lost) ≤ count
  pub loses : fault ≢ NoMemory → lost ≡ []
  pub faults : (fault ≡ Stream) ⊎ (fault ≡ NoMemory)
