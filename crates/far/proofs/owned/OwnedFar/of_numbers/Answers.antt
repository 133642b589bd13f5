use Rattle.std.proofs.Common.{◌≡◌, length, rules}
use Rattle.far.specs.inside.Unpacked.{unpacked_of}
use Rattle.far.proofs.Written.{room_written, texts_written, automata_written}
use Rattle.far.proofs.owned.OwnedFar.of_numbers.Goals as goal

pub invariant_of-result : goal.invariant_of-result
invariant_of-result c =
    let e = c.args.numbers.now in
    let len_is : c.len.result ≡ length c.append_rows.new.out.items = search rules in
    record {
      limits = e.limits;
      room = room_written (unpacked_of e) e.limits.2 e.limits.0 e.numbers _ _ _ _ _ _ _ c.new-text.ensures.items c.delta-delta.ensures c.in_ok-append_delta.ensures.ok c.rows.ensures c.in_ok-append_rows.ensures.ok len_is c.in_ok-append_hex.ensures.ok;
      texts = texts_written (unpacked_of e) e.limits.2 e.limits.0 e.numbers _ _ _ _ _ _ _ c.new-text.ensures.items c.delta-delta.ensures c.in_ok-append_delta.ensures.ok c.rows.ensures c.in_ok-append_rows.ensures.ok len_is c.in_ok-append_hex.ensures.ok;
    }

pub returns : goal.returns
returns c =
    let e = c.args.numbers.now in
    let len_is : c.len.result ≡ length c.append_rows.new.out.items = search rules in
    automata_written (unpacked_of e) e.limits.2 e.limits.0 e.numbers _ _ _ _ _ _ _ c.new-text.ensures.items c.delta-delta.ensures c.in_ok-append_delta.ensures.ok c.rows.ensures c.in_ok-append_rows.ensures.ok len_is c.in_ok-append_hex.ensures.ok
