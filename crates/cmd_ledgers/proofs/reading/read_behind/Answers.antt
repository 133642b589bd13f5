use Rattle.std.proofs.Common.{◌≤◌, ◌+◌, refl, arith, length}
use Rattle.std.proofs.lemmas.Slice.{take-put_mid}
use Rattle.cmd_ledgers.proofs.ReadLedgers.{read_stands}
use Rattle.cmd_ledgers.proofs.reading.read_behind.Goals as goal

pub returns-clause-ok : goal.returns-clause-ok
returns-clause-ok g c =
    let within : c.args.len ≤ length c.args.buffer.now = omega (arith, c.requires) in
    read_stands _ _ c.args.len c.args.buffer.now c.read.new.buf _ c.read.result within
    (take-put_mid c.args.len _ c.args.buffer.now c.read.new.buf (c.args.len + length c.read.new.buf) refl within) c.read.ensures.bound c.read.ensures.bytes
