use Rattle.std.proofs.Common.{arith}
use Rattle.tnf.proofs.ChildLists.{target_after, turned, ones_after_zeros, none_after_ones}
use Rattle.tnf.proofs.child_tables.entry_after.Goals as goal

pub returns-then-e-targets-clause-left : goal.returns-then-e-targets-clause-left
returns-then-e-targets-clause-left c = target_after c.args.targets c.args.first_dir c.args.e c.requires

pub returns-in_default-L-clause-left : goal.returns-in_default-L-clause-left
returns-in_default-L-clause-left c = turned c.args.targets c.args.first_dir c.args.e (omega arith) c.in_default-L.is-1

pub returns-in-Zero-R-clause-left : goal.returns-in-Zero-R-clause-left
returns-in-Zero-R-clause-left c = ones_after_zeros c.args.targets c.args.first_dir c.args.e (omega arith) c.in-Zero-R.is-0 c.in-Zero-R.is-1

pub returns-in-One-R-clause-left : goal.returns-in-One-R-clause-left
returns-in-One-R-clause-left c = none_after_ones c.args.targets c.args.first_dir c.args.e (omega arith) c.in-One-R.is-0 c.in-One-R.is-1
