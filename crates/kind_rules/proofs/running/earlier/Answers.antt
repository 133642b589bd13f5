use Rattle.std.proofs.Common.{◌≡◌, ◌<◌, length, arith}
use Rattle.kind_rules.proofs.RuleLaws.{found_here, passed_by, passed_length}
use Rattle.kind_rules.proofs.running.earlier.Goals as goal

pub returns-then-rest-len-clause-found : goal.returns-then-rest-len-clause-found
returns-then-rest-len-clause-found c =
    let within : c.loop-group.rest < length c.group-item.result.items = omega (arith, c.if-rest-len.true, c.len.ensures, c.group-item.result.ok.0) in
    found_here c.args.groups.now c.loop-group.group-index c.group-item.result c.loop-group.rest c.index.result.now _ c.loop-group-test.true c.group-item.is within c.index.ensures c.loop-group.invariant.0

pub loop-group-preserved : goal.loop-group-preserved
loop-group-preserved c =
    let size : c.len-rest.result ≡ length c.group-item.result.items = omega (arith, c.len-rest.ensures, c.group-item.result.ok.0) in
    let past = c.if-rest-len.false in
    let also : c.len.result ≡ length c.group-item.result.items = omega (arith, c.len.ensures, c.group-item.result.ok.0) in
    let more = passed_length c.args.groups.now c.loop-group.group-index c.group-item.result c.loop-group-test.true c.group-item.is in
    let before = c.loop-group.invariant.1 in (
      passed_by c.args.groups.now c.loop-group.group-index c.group-item.result c.loop-group.rest c.len-rest.result _ c.loop-group-test.true c.group-item.is size (omega (arith, size, past, also)) c.loop-group.invariant.0,
      omega (arith, size, past, also, more, before),
    )
