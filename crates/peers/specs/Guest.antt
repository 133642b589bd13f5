-- The handshake of a coordinator and a worker that have the same token. Each says a number that it uses once, its nonce, and
-- shows by a sum over both nonces that it has the token. Bytes are their ASCII codes: 10 is the newline, 32 the space.
use Rattle.std.specs.Prelude.{◌≡◌, ℕ, ◌+◌, ◌-◌, ◌<◌, ◌&&◌, ◌||◌, nat_eq, nat_le, nat_lt, Bool, true, if◌then◌else◌, List, [], ◌∷◌, ◌++◌, Option, Some, None, Result, Ok, Err, length, map, replicate, take, codes, bit_xor}
use Rattle.std.specs.List.{concat, list_all}
use Rattle.std.specs.Str.{bytes_eq}
use Rattle.hex.specs.Hex.{encode_lower}
use Rattle.sha2.specs.Sha256.{sha256}
use Rattle.text.specs.Terms.{cut_at}
use Rattle.peers.specs.declared.guest.Role.{Role}
use Rattle.peers.specs.declared.guest.Role.TheVariants.{Worker, Coordinator}
use Rattle.peers.specs.declared.guest.Refusal.{Refusal}
use Rattle.peers.specs.declared.guest.Refusal.TheVariants.{Strange, OtherVersion, WrongProof}
use Rattle.peers.specs.declared.guest.Heard.{Heard}
use Rattle.peers.specs.declared.guest.Heard.TheVariants.{More, Shown, Refused}

-- a key as RFC 2104 has it, for sums over blocks of 64 bytes
abbrev pub key_of : List ℕ → List ℕ
key_of token = if nat_le (length token) 64 then token else sha256 token

unfoldable pub key_block : List ℕ → List ℕ
key_block token = key_of token ++ replicate (64 - length (key_of token)) 0

unfoldable pub masked : ℕ → List ℕ → List ℕ
masked mask block = map (λ byte. bit_xor byte mask) block

-- HMAC-SHA-256 (RFC 2104)
unfoldable pub hmac : List ℕ → List ℕ → List ℕ
hmac token message = sha256 (masked 0x5C (key_block token) ++ sha256 (masked 0x36 (key_block token) ++ message))

unfoldable pub role_word : Role → List ℕ
role_word Worker = codes "worker "
role_word Coordinator = codes "coordinator "

-- what is shown: who shows it, the nonce of the coordinator and that of the worker
unfoldable pub claim : Role → List ℕ → List ℕ → List ℕ
claim role theirs ours = concat (role_word role ∷ theirs ∷ codes " " ∷ ours ∷ [])

-- that one in a role has the token, as 64 digits
unfoldable pub proof : List ℕ → Role → List ℕ → List ℕ → List ℕ
proof token role theirs ours = encode_lower (hmac token (claim role theirs ours))

-- what a coordinator says first, and a worker's line begins with
unfoldable pub greeting : List ℕ → List ℕ → List ℕ
greeting version nonce = concat (codes "bb " ∷ version ∷ codes " " ∷ nonce ∷ [])

-- what a worker says that has the token
unfoldable pub letter : List ℕ → List ℕ → List ℕ → List ℕ → List ℕ
letter token version theirs ours = concat (greeting version ours ∷ codes " " ∷ proof token Worker theirs ours ∷ [])

-- a digit of 0 to 9 and a to f
abbrev pub is_low_digit : ℕ → Bool
is_low_digit b = nat_le 48 b && nat_le b 57 || nat_le 97 b && nat_le b 102

unfoldable pub is_nonce : List ℕ → Bool
is_nonce text = nat_eq (length text) 64 && list_all is_low_digit text

infixl 10 ◌>>=◌
-- what is made of a value that must be there
abbrev pub ◌>>=◌ : {A B : Type 0} → Option A → (A → Option B) → Option B
None >>= f = None
(Some x) >>= f = f x

-- of `bb VERSION ..` the version, and what stands behind it
unfoldable pub hello_in : List ℕ → Option (List ℕ × List ℕ)
hello_in line = cut_at 32 line >>= λ cut. if bytes_eq cut.0 (codes "bb") then cut_at 32 cut.1 else None

-- of a greeting the nonce, or why it is refused
abbrev pub nonce_by : List ℕ → Option (List ℕ × List ℕ) → Result (List ℕ) Refusal
nonce_by version None = Err Strange
nonce_by version (Some hello) =
    if bytes_eq hello.0 version then (if is_nonce hello.1 then Ok hello.1 else Err Strange) else Err OtherVersion

unfoldable pub greeted : List ℕ → List ℕ → Result (List ℕ) Refusal
greeted version line = nonce_by version (hello_in line)

-- of `NONCE PROOF` the nonce, where the proof is that of a worker, under this token, of both nonces
abbrev pub proved_by : List ℕ → List ℕ → Option (List ℕ × List ℕ) → Result (List ℕ) Refusal
proved_by token theirs None = Err Strange
proved_by token theirs (Some cut) =
    if is_nonce cut.0 then (if bytes_eq cut.1 (proof token Worker theirs cut.0) then Ok cut.0 else Err WrongProof)
    else Err Strange

abbrev pub letter_by : List ℕ → List ℕ → List ℕ → Option (List ℕ × List ℕ) → Result (List ℕ) Refusal
letter_by token version theirs None = Err Strange
letter_by token version theirs (Some hello) =
    if bytes_eq hello.0 version then proved_by token theirs (cut_at 32 hello.1) else Err OtherVersion

-- the nonce of the worker whose line this is, or why it is refused
unfoldable pub letter_in : List ℕ → List ℕ → List ℕ → List ℕ → Result (List ℕ) Refusal
letter_in token version theirs line = letter_by token version theirs (hello_in line)

-- a guest of whom some bytes have come, none of which ends a line
pub record Welcomed : Type 0 where
  -- what the coordinator has said
  pub nonce : List ℕ
  pub come : List ℕ

abbrev pub heard_by : List ℕ → List ℕ → ℕ → Result (List ℕ) Refusal → Heard
heard_by token theirs taken (Ok ours) = Shown taken (proof token Coordinator theirs ours)
heard_by token theirs taken (Err why) = Refused why

-- so many bytes have come, or of those the first line and what stands behind it
abbrev pub heard_in : List ℕ → List ℕ → List ℕ → ℕ → ℕ → Option (List ℕ × List ℕ) → Heard
heard_in token version theirs before all None = if nat_lt all 200 then More else Refused Strange
heard_in token version theirs before all (Some cut) =
    if nat_lt (length cut.0) 200
    then heard_by token theirs (length cut.0 + 1 - before) (letter_in token version theirs cut.0)
    else Refused Strange

-- what a piece of a guest's bytes comes to
unfoldable pub heard : List ℕ → List ℕ → Welcomed → List ℕ → Heard
heard token version guest piece =
    heard_in token version guest.nonce (length guest.come) (length (guest.come ++ piece))
    (cut_at 10 (guest.come ++ piece))

-- a guest has said the whole line of a worker that has the token, within 200 bytes: so many bytes of the piece belong to it,
-- and this is the coordinator's proof for that worker
pub record ShowsToken (token version : List ℕ) (guest : Welcomed) (piece : List ℕ) (taken : ℕ) (answer : List ℕ)
    : Type 0 where
  pub ours : List ℕ
  pub nonce : is_nonce ours ≡ true
  pub line : guest.come ++ take taken piece ≡ letter token version guest.nonce ours ++ codes "\n"
  pub short : length (letter token version guest.nonce ours) < 200
  pub proved : answer ≡ proof token Coordinator guest.nonce ours

-- what is shown is that
abbrev pub ShowsWhere : List ℕ → List ℕ → Welcomed → List ℕ → Heard → Type 0
ShowsWhere token version guest piece More = Unit {0}
ShowsWhere token version guest piece (Shown taken answer) = ShowsToken token version guest piece taken answer
ShowsWhere token version guest piece (Refused why) = Unit {0}
