use Rattle.std.proofs.Common.{◌≡◌, ℕ, refl, get_or, inl, inr}
use Rattle.std.proofs.lemmas.Bool.{cases_lt}
use Rattle.std.proofs.lemmas.List.{get_or-replicate, get_or_past}
use Rattle.std.proofs.Math.ListN.{replicate}
use Rattle.find_words.proofs.word_finder.all_targets.Goals as goal

-- a list of zeros has none but zeros, and past its end there are zeros too
zeros : (k : ℕ) → ◌≡◌ {A = ℕ} (get_or {A = ℕ} (replicate {A = ℕ} 32 0) k 0) 0
zeros k = elim (cases_lt k 32) [ inl within ↦ get_or-replicate {A = ℕ} 32 k 0 0 within | inr past ↦ get_or_past {X = ℕ} (replicate {A = ℕ} 32 0) k 0 past ]

pub loop-k-init : goal.loop-k-init
loop-k-init c = (refl, λ k. rw (zeros k) c.requires)
