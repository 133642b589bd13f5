use Rattle.std.proofs.Common.{ℕ, List, ◌++◌, sym, subst}
use Rattle.libbb.specs.Pieces.{HasCome, IsBehind}
use Rattle.libbb.specs.declared.reader.Reader.{Reader}
use Rattle.libbb.proofs.reader.Reader.fed.Goals as goal

pub returns-in-Past : goal.returns-in-Past
returns-in-Past c =
    subst (λ (r : Reader). (text : List ℕ) → HasCome text r → IsBehind (text ++ c.args.piece.now) c.fed.result) (sym c.in-Past.is) c.fed.ensures
