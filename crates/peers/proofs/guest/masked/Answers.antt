use Rattle.std.proofs.Common.{arith, ◌∙◌, ◌<◌, length}
use Rattle.std.specs.Prelude.{bit_xor, slice_index_or}
use Rattle.std.proofs.lemmas.List.{get_or_default, length-set}
use Rattle.std.proofs.lemmas.List.Edits.{map_over_more}
use Rattle.peers.proofs.guest.masked.Goals as goal

pub loop-i-preserved : goal.loop-i-preserved
loop-i-preserved c =
    let out = c.loop-i.out in
    let byte = slice_index_or out c.loop-i.i 0 in
    let within : c.loop-i.i < length out = omega (arith, c.loop-i.invariant.len) in
    record {
      len = length-set out c.loop-i.i _ ∙ c.loop-i.invariant.len;
      done = map_over_more (λ byte. bit_xor byte c.args.mask) c.args.block.now out c.loop-i.i byte (omega arith)
          c.loop-i.invariant.done (get_or_default out c.loop-i.i 0 byte within);
    }
