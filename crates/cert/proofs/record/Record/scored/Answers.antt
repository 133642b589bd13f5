use Rattle.cert.proofs.Claims.{gets_halting}
use Rattle.cert.proofs.record.Record.scored.Goals as goal

pub returns-in_ok-scored-in-Halts : goal.returns-in_ok-scored-in-Halts
returns-in_ok-scored-in-Halts c =
    gets_halting c.args.self.now c.in-Halts.evidence c.in_ok-scored-in-Halts.scored c.in-Halts.is c.in_ok-scored-in-Halts.ensures
