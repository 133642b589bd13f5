use Rattle.std.proofs.Common.{◌++◌}
use Rattle.libbb.proofs.LoadedTexts.{lacks_memory}
use Rattle.libbb.proofs.reader.loaded.Goals as goal

pub returns-then-piece-bytes : goal.returns-then-piece-bytes
returns-then-piece-bytes c = λ text stands is. lacks_memory c.args.loader.root (text ++ c.args.piece.now) is

pub returns-in-Err : goal.returns-in-Err
returns-in-Err c = λ text stands is. lacks_memory c.args.loader.root (text ++ c.args.piece.now) is
