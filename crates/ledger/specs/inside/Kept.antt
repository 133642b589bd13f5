-- For the code: how a record is kept in few bytes.
use Rattle.std.proofs.Common.{zero, suc, refl, arith}
use Rattle.std.specs.Prelude.{◌≡◌, ℕ, ◌+◌, ◌<◌, ◌^◌, Option, Some, None, IfSome}
use Rattle.machine_text.specs.declared.table.Pair.{Pair}
use Rattle.cert.specs.declared.certificate.OwnedCertificate.{OwnedCertificate}
use Rattle.cert.specs.declared.certificate.OwnedCertificate.TheVariants.{Halts as OwnedHalts, Cycle as OwnedCycle, Translated as OwnedTranslated, Backward as OwnedBackward, Undecided as OwnedUndecided}
use Rattle.run.specs.declared.reach.Reach.TheVariants.{Early}
use Rattle.ledger.specs.declared.stored_record.Kept.{Kept}
use Rattle.ledger.specs.declared.stored_record.Kept.TheVariants.{Halts, Cycle, Translated, Backward, Undecided, Boxed}
use Rattle.ledger.specs.declared.tree_count.TreeCount.{TreeCount}

-- For the code: numbers that may be missing, in eight bytes.

-- 0 is none, and every other the number that is one less
abbrev pub number_of : ℕ → Option ℕ
number_of zero = None
number_of (suc n) = Some n

abbrev pub kept_number : Option ℕ → ℕ
kept_number None = 0
kept_number (Some n) = n + 1

-- it has room in eight bytes
abbrev pub IsSmall : Option ℕ → Type 0
IsSmall o = IfSome o (λ n. n + 1 < 2 ^ 64)

pub kept_back : (n : ℕ) → kept_number (number_of n) ≡ n
kept_back zero = refl
kept_back (suc n) = omega arith

-- For the code: what is stored of a record under its table, and how it is kept in few bytes.

-- a certificate, the pair on which its table halts, the place of the record of the table's parent, and the numbers of
-- the table's tree
pub record Stored : Type 0 where
  pub certificate : OwnedCertificate
  pub halts_on : Option Pair
  pub parent : ℕ
  pub tree : TreeCount

abbrev pub kept_certificate : Kept → OwnedCertificate
kept_certificate (Halts on parent steps ones) = OwnedHalts (record { steps = steps; ones = Some ones; reach = Early })
kept_certificate (Cycle parent i j) = OwnedCycle (record { i = i; j = j })
kept_certificate (Translated side parent i j) = OwnedTranslated (record { i = i; j = j; side = side })
kept_certificate (Backward parent depth) = OwnedBackward (record { depth = depth })
kept_certificate (Undecided parent) = OwnedUndecided
kept_certificate (Boxed on parent certificate) = certificate.value

abbrev pub kept_pair : Kept → Option Pair
kept_pair (Halts on parent steps ones) = Some on
kept_pair (Cycle parent i j) = None
kept_pair (Translated side parent i j) = None
kept_pair (Backward parent depth) = None
kept_pair (Undecided parent) = None
kept_pair (Boxed on parent certificate) = on

abbrev pub kept_parent : Kept → ℕ
kept_parent (Halts on parent steps ones) = parent
kept_parent (Cycle parent i j) = parent
kept_parent (Translated side parent i j) = parent
kept_parent (Backward parent depth) = parent
kept_parent (Undecided parent) = parent
kept_parent (Boxed on parent certificate) = parent
