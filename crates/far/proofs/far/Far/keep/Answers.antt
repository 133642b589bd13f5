use Rattle.std.proofs.Common.{sym}
use Rattle.far.proofs.far.Far.keep.Goals as goal

pub returns : goal.returns
returns c = sym c.args.self.now.texts.kept.form
