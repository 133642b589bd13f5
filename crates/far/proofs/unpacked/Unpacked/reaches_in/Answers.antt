use Rattle.std.proofs.Common.{rules}
use Rattle.far.proofs.Edges.{reaches_iff}
use Rattle.far.proofs.unpacked.Unpacked.reaches_in.Goals as goal

pub returns : goal.returns
returns c = reaches_iff _ _ _ _ _ _ _ _ _ c.rows.ensures c.symbol_number.ensures.number c.last-2.ensures.last c.union_over.ensures (search rules) c.is_part.ensures
