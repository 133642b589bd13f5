-- What a guest has said that is let in: the line of a worker with the token.
use Rattle.std.proofs.Common.{◌≡◌, ℕ, zero, suc, ◌+◌, ◌-◌, ◌<◌, Bool, true, false, cond, eqb, ltb, List, [], ◌∷◌, ◌++◌, length, take, refl, subst, sym, ap, ◌∙◌, Option, Some, None, arith, ◌&&◌, not}
use Rattle.std.specs.Prelude.{option_map, codes, nat_lt, Result, Ok, Err, if◌then◌else◌, slice_index_or, nat_eq}
use Rattle.std.specs.List.{concat}
use Rattle.std.specs.Str.{bytes_eq}
use Rattle.std.proofs.lemmas.List.{append-nil, append_assoc}
use Rattle.std.proofs.lemmas.Slice.Eq.{bytes_eq-Decides}
use Rattle.std.proofs.lemmas.Bool.Decides.{nat_tests}
use Rattle.text.specs.Terms.{cut_at}
use Rattle.peers.specs.declared.guest.Role.TheVariants.{Worker, Coordinator}
use Rattle.peers.specs.declared.guest.Heard.TheVariants.{More, Shown, Refused}
use Rattle.peers.specs.declared.guest.Refusal.{Refusal}
use Rattle.peers.specs.declared.guest.Refusal.TheVariants.{Strange, OtherVersion, WrongProof}
use Rattle.peers.specs.Guest.{◌>>=◌, ShowsToken, ShowsWhere, Welcomed, greeting, heard, heard_by, heard_in, hello_in, is_nonce, letter, letter_by, letter_in, proof, proved_by}

-- What a guest has said that is let in.
abbrev longer : ℕ → Option (List ℕ × List ℕ) → Option (List ℕ × List ℕ)
longer b cut = option_map (λ cut. (b ∷ cut.0, cut.1)) cut

-- a cut of what stands behind the first byte
behind_first : (b : ℕ) (cut : Option (List ℕ × List ℕ)) (line rest : List ℕ) → longer b cut ≡ Some (line, rest)
    → (line' : List ℕ) × (line ≡ b ∷ line') × (cut ≡ Some (line', rest))
behind_first b None line rest is = absurd (cc)
behind_first b (Some (line', rest')) line rest is = (line', grind arith, grind arith)

nothing_behind : (b : ℕ) (cut : Option (List ℕ × List ℕ)) → longer b cut ≡ None → cut ≡ None
nothing_behind b None is = refl
nothing_behind b (Some (line, rest)) is = absurd (cc)

first_taken : (piece line rest : List ℕ) → cut_at 10 piece ≡ Some (line, rest) → take (length line + 1) piece ≡ line ++ 10 ∷ []
first_taken [] line rest is = absurd (cc)
first_taken (b ∷ piece) line rest is =
    elim (eqb b 10) as (λ v. eqb b 10 ≡ v → cond v (Some ([], piece)) (longer b (cut_at 10 piece)) ≡ Some (line, rest)
    → take (length line + 1) (b ∷ piece) ≡ line ++ 10 ∷ []) [
      | true ↦ λ same is. grind (arith, is, same)
      | false ↦ λ other is.
          let found = behind_first b (cut_at 10 piece) line rest is in
          grind (arith, found.1, first_taken piece found.0 rest found.2)
    ] refl is

-- what was said before the line's end, and the first bytes of the piece behind it, are the line and its newline
pub whole_line : (come piece line rest : List ℕ) → cut_at 10 come ≡ None → cut_at 10 (come ++ piece) ≡ Some (line, rest)
    → come ++ take (length line + 1 - length come) piece ≡ line ++ 10 ∷ []
whole_line [] piece line rest none is = grind (arith, first_taken piece line rest is)
whole_line (b ∷ come) piece line rest none is =
    elim (eqb b 10) as (λ v. eqb b 10 ≡ v → cond v (Some ([], come)) (longer b (cut_at 10 come)) ≡ None
    → cond v (Some ([], come ++ piece)) (longer b (cut_at 10 (come ++ piece))) ≡ Some (line, rest)
    → (b ∷ come) ++ take (length line + 1 - length (b ∷ come)) piece ≡ line ++ 10 ∷ []) [
      | true ↦ λ same none is. absurd (cc)
      | false ↦ λ other none is.
          let found = behind_first b (cut_at 10 (come ++ piece)) line rest is in
          let before : cut_at 10 come ≡ None = nothing_behind b (cut_at 10 come) none in
          grind (arith, found.1, whole_line come piece found.0 rest before found.2)
    ] refl none is

-- a text that is cut is its two parts with the byte between them
cut_joins : (byte : ℕ) (xs before behind : List ℕ) → cut_at byte xs ≡ Some (before, behind) → xs ≡ before ++ byte ∷ behind
cut_joins byte [] before behind is = absurd (cc)
cut_joins byte (b ∷ xs) before behind is =
    elim (eqb b byte) as (λ v. eqb b byte ≡ v → cond v (Some ([], xs)) (longer b (cut_at byte xs)) ≡ Some (before, behind)
    → b ∷ xs ≡ before ++ byte ∷ behind) [
      | true ↦ λ same is. grind (arith, is, same)
      | false ↦ λ other is.
          let found = behind_first b (cut_at byte xs) before behind is in
          grind (arith, found.1, cut_joins byte xs found.0 behind found.2)
    ] refl is

same_text : (xs ys : List ℕ) → bytes_eq xs ys ≡ true → xs ≡ ys
same_text xs ys same = (bytes_eq-Decides xs ys).0 same

-- `bb`, the version, and what stands behind it
hello_by : (cut : Option (List ℕ × List ℕ)) (line version rest : List ℕ) → cut_at 32 line ≡ cut
    → (cut >>= λ cut. if bytes_eq cut.0 (codes "bb") then cut_at 32 cut.1 else None) ≡ Some (version, rest)
    → line ≡ codes "bb" ++ 32 ∷ (version ++ 32 ∷ rest)
hello_by None line version rest cut is = absurd (cc)
hello_by (Some (word, behind)) line version rest cut is =
    elim (bytes_eq word (codes "bb")) as (λ v. bytes_eq word (codes "bb") ≡ v → cond v (cut_at 32 behind) None ≡ Some (version, rest)
    → line ≡ codes "bb" ++ 32 ∷ (version ++ 32 ∷ rest)) [
      | true ↦ λ same is.
          cut_joins 32 line word behind cut
          ∙ ap (λ (w : List ℕ). w ++ 32 ∷ behind) (same_text word (codes "bb") same)
          ∙ ap (λ (b : List ℕ). codes "bb" ++ 32 ∷ b) (cut_joins 32 behind version rest is)
      | false ↦ λ other is. absurd (cc)
    ] refl is

-- a nonce that is proved
shown_in : (token theirs text ours : List ℕ) (cut : Option (List ℕ × List ℕ)) → cut_at 32 text ≡ cut → proved_by token theirs cut ≡ Ok ours
    → (text ≡ ours ++ 32 ∷ proof token Worker theirs ours) × (is_nonce ours ≡ true)
shown_in token theirs text ours None cut is = absurd (cc)
shown_in token theirs text ours (Some (nonce, shown)) cut is =
    elim (is_nonce nonce) as (λ v. is_nonce nonce ≡ v → cond v (cond (bytes_eq shown (proof token Worker theirs nonce)) (Ok nonce) (Err WrongProof)) (Err Strange) ≡ Ok ours
    → (text ≡ ours ++ 32 ∷ proof token Worker theirs ours) × (is_nonce ours ≡ true)) [
      | true ↦ λ fine is. elim (bytes_eq shown (proof token Worker theirs nonce)) as (λ v. bytes_eq shown (proof token Worker theirs nonce) ≡ v → cond v (Ok nonce) (Err WrongProof) ≡ Ok ours
          → (text ≡ ours ++ 32 ∷ proof token Worker theirs ours) × (is_nonce ours ≡ true)) [
            | true ↦ λ same is.
                let it : nonce ≡ ours = cc in (
                  cut_joins 32 text nonce shown cut ∙ ap (λ (s : List ℕ). nonce ++ 32 ∷ s) (same_text shown _ same)
                      ∙ ap (λ (n : List ℕ). n ++ 32 ∷ proof token Worker theirs n) it,
                  ap is_nonce (sym it) ∙ fine,
                )
            | false ↦ λ other is. absurd (cc)
          ] refl is
      | false ↦ λ other is. absurd (cc)
    ] refl is

-- whose line a line is that is taken
letter_from : (token version theirs line ours : List ℕ) (hello : Option (List ℕ × List ℕ)) → hello_in line ≡ hello
    → letter_by token version theirs hello ≡ Ok ours
    → (line ≡ codes "bb" ++ 32 ∷ (version ++ 32 ∷ (ours ++ 32 ∷ proof token Worker theirs ours))) × (is_nonce ours ≡ true)
unfolding hello_in
letter_from token version theirs line ours None hello is = absurd (cc)
letter_from token version theirs line ours (Some (v, rest)) hello is =
    elim (bytes_eq v version) as (λ t. bytes_eq v version ≡ t → cond t (proved_by token theirs (cut_at 32 rest)) (Err OtherVersion) ≡ Ok ours
    → (line ≡ codes "bb" ++ 32 ∷ (version ++ 32 ∷ (ours ++ 32 ∷ proof token Worker theirs ours))) × (is_nonce ours ≡ true)) [
      | true ↦ λ same is.
          let shown = shown_in token theirs rest ours (cut_at 32 rest) refl is in (
            hello_by (cut_at 32 line) line v rest refl hello
                ∙ ap (λ (w : List ℕ). codes "bb" ++ 32 ∷ (w ++ 32 ∷ rest)) (same_text v version same)
                ∙ ap (λ (r : List ℕ). codes "bb" ++ 32 ∷ (version ++ 32 ∷ r)) shown.0,
            shown.1,
          )
      | false ↦ λ other is. absurd (cc)
    ] refl is

-- the pieces of a letter, one behind the other
joined : (version ours shown : List ℕ) → codes "bb" ++ 32 ∷ (version ++ 32 ∷ (ours ++ 32 ∷ shown))
    ≡ concat (concat (codes "bb " ∷ version ∷ codes " " ∷ ours ∷ []) ∷ codes " " ∷ shown ∷ [])
joined version ours shown =
    ap (λ (l : List ℕ). codes "bb " ++ l) (
    ap (λ (l : List ℕ). version ++ 32 ∷ l) (ap (λ (l : List ℕ). ours ++ 32 ∷ l) (sym (append-nil shown)))
    )
    ∙ grind (arith, append_assoc, append-nil)

whose_letter : (token version theirs line ours : List ℕ) → letter_in token version theirs line ≡ Ok ours
    → (line ≡ letter token version theirs ours) × (is_nonce ours ≡ true)
unfolding letter_in letter greeting
whose_letter token version theirs line ours is =
    let from = letter_from token version theirs line ours (hello_in line) refl is in
    (from.0 ∙ joined version ours (proof token Worker theirs ours), from.1)

-- by the worker whose line it was
shown_by_letter : (token version : List ℕ) (guest : Welcomed) (piece line rest : List ℕ) (letter : Result (List ℕ) Refusal)
    → cut_at 10 guest.come ≡ None → cut_at 10 (guest.come ++ piece) ≡ Some (line, rest) → length line < 200
    → letter_in token version guest.nonce line ≡ letter
    → ShowsWhere token version guest piece (heard_by token guest.nonce (length line + 1 - length guest.come) letter)
shown_by_letter token version guest piece line rest (Ok ours) none cut short is =
    let whose = whose_letter token version guest.nonce line ours is in
    record {
      ours = ours;
      nonce = whose.1;
      line = whole_line guest.come piece line rest none cut ∙ ap (λ (l : List ℕ). l ++ 10 ∷ []) whose.0;
      short = subst (λ (l : List ℕ). length l < 200) whose.0 short;
      proved = refl;
    }
shown_by_letter token version guest piece line rest (Err why) none cut short is = tt

shows_in : (token version : List ℕ) (guest : Welcomed) (piece : List ℕ) (cut : Option (List ℕ × List ℕ))
    → cut_at 10 guest.come ≡ None → cut_at 10 (guest.come ++ piece) ≡ cut
    → ShowsWhere token version guest piece
    (heard_in token version guest.nonce (length guest.come) (length (guest.come ++ piece)) cut)
shows_in token version guest piece None none cut =
    elim (nat_lt (length (guest.come ++ piece)) 200) as (λ v. ShowsWhere token version guest piece (cond v More (Refused Strange))) [
      | true ↦ tt
      | false ↦ tt
    ]
shows_in token version guest piece (Some (line, rest)) none cut =
    elim (nat_lt (length line) 200) as (λ v. nat_lt (length line) 200 ≡ v → ShowsWhere token version guest piece
    (cond v (heard_by token guest.nonce (length line + 1 - length guest.come) (letter_in token version guest.nonce line)) (Refused Strange))) [
      | true ↦ λ short. shown_by_letter token version guest piece line rest (letter_in token version guest.nonce line) none cut
          (grind (arith, nat_tests)) refl
      | false ↦ λ long. tt
    ] refl

-- who is let in has said the line of a worker with the token
pub shows_token : (token version : List ℕ) (guest : Welcomed) (piece : List ℕ) → cut_at 10 guest.come ≡ None
    → ShowsWhere token version guest piece (heard token version guest piece)
unfolding heard
shows_token token version guest piece none = shows_in token version guest piece (cut_at 10 (guest.come ++ piece)) none refl

never_more : (token theirs : List ℕ) (taken : ℕ) (letter : Result (List ℕ) Refusal) → heard_by token theirs taken letter ≡ More → ⊥
never_more token theirs taken (Ok ours) is = cc
never_more token theirs taken (Err why) is = cc

no_cut : (token version theirs : List ℕ) (before all : ℕ) (cut : Option (List ℕ × List ℕ))
    → heard_in token version theirs before all cut ≡ More → cut ≡ None
no_cut token version theirs before all None is = refl
no_cut token version theirs before all (Some (line, rest)) is =
    elim (nat_lt (length line) 200) as (λ v. cond v (heard_by token theirs (length line + 1 - before) (letter_in token version theirs line))
    (Refused Strange) ≡ More → ◌≡◌ {A = Option (List ℕ × List ℕ)} (Some (line, rest)) None) [
      | true ↦ λ is. absurd (never_more token theirs (length line + 1 - before) (letter_in token version theirs line) is)
      | false ↦ λ is. absurd (cc)
    ] is

-- while more is waited for, no line has ended
pub no_line_yet : (token version : List ℕ) (guest : Welcomed) (piece : List ℕ) → heard token version guest piece ≡ More
    → cut_at 10 (guest.come ++ piece) ≡ None
unfolding heard
no_line_yet token version guest piece is =
    no_cut token version guest.nonce (length guest.come) (length (guest.come ++ piece)) (cut_at 10 (guest.come ++ piece)) is

-- Two texts are compared byte by byte.

-- one byte more
pub same_more : (xs ys : List ℕ) (i : ℕ) → i < length xs → i < length ys
    → bytes_eq (take (suc i) xs) (take (suc i) ys) ≡ bytes_eq (take i xs) (take i ys) && nat_eq (slice_index_or xs i 0) (slice_index_or ys i 0)
same_more [] ys i below below' = absurd (omega arith)
same_more (x ∷ xs) [] i below below' = absurd (omega arith)
same_more (x ∷ xs) (y ∷ ys) zero below below' = grind arith
same_more (x ∷ xs) (y ∷ ys) (suc i) below below' = grind (arith, same_more xs ys i (omega arith) (omega arith))
