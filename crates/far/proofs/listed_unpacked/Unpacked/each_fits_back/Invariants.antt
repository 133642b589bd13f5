use Rattle.std.proofs.Common.{◌≡◌, length}
use Rattle.machine_text.specs.Terms.{entry_of}
use Rattle.far.specs.ListedTexts.{halt_number}
use Rattle.far.specs.inside.ListedUnpacked.{numbers_of_unpacked}
use Rattle.far.specs.inside.Steps.{EachFitsBack}
use Rattle.far.proofs.listed_unpacked.Unpacked.each_fits_back.Given as goal

abbrev pub invariant-loop-f : goal.invariant-loop-f
invariant-loop-f l = EachFitsBack (entry_of l.t) (numbers_of_unpacked l.self) l.f × (length l.seen.items ≡ halt_number (numbers_of_unpacked l.self))
