use Rattle.std.proofs.Common.{arith}
use Rattle.far.proofs.Listing.{between}
use Rattle.far.proofs.listed_reading.Lists.get.Goals as goal

pub offset_bounds-deref-from : goal.offset_bounds-deref-from
offset_bounds-deref-from c =
    let b = between _ _ _ _ _ _ c.self.view_is c.self.invariant c.requires c.index-from.ensures c.index-to.ensures in
    omega (arith, b.0, b.1, c.deref.ensures.len, c.deref.type_inv)

pub slice_bounds-result-count : goal.slice_bounds-result-count
slice_bounds-result-count c = (between _ _ _ _ _ _ c.self.view_is c.self.invariant c.requires c.index-from.ensures c.index-to.ensures).0

pub returns : goal.returns
returns c =
    let b = between _ _ _ _ _ _ c.self.view_is c.self.invariant c.requires c.index-from.ensures c.index-to.ensures in
    rw (c.deref.ensures.value) b.2
