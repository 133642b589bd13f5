use Rattle.std.proofs.Common.{refl, ◌∙◌, ap}
use Rattle.cert.specs.Terms.{recorded}
use Rattle.cmd_lines.specs.Terms.{lent}
use Rattle.find_search.specs.Known.{with_number}
use Rattle.find_search.proofs.Lines.{kept_line, refused_line}
use Rattle.find_search.proofs.known.KnownLineTaker.take_line.Goals as goal

pub returns-in_ok-keep-in-Some-clause-ok : goal.returns-in_ok-keep-in-Some-clause-ok
returns-in_ok-keep-in-Some-clause-ok c =
    kept_line c.args.self.now (record { alloc = c.args.self.now.alloc; told = c.args.self.now.told; lines = c.saturating_add-self.result; refused = c.args.self.now.refused })
    c.keep.new.self (lent c.args.line) (recorded c.in-Some.found) refl c.saturating_add-self.ensures refl c.in-Some.ensures c.in_ok-keep-in-Some.ensures

pub returns-in-None-clause-ok : goal.returns-in-None-clause-ok
returns-in-None-clause-ok c =
    refused_line c.args.self.now (record { alloc = c.args.self.now.alloc; told = c.args.self.now.told; lines = c.saturating_add-self.result; refused = c.with_number-self.result })
    (lent c.args.line) refl c.saturating_add-self.ensures (c.with_number-self.ensures ∙ ap (with_number c.args.self.now.refused) c.saturating_add-self.ensures) c.in-None.ensures
