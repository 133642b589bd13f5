use Rattle.std.proofs.Common.{length}
use Rattle.machine_text.specs.Terms.{entry_of}
use Rattle.law_turing.specs.Terms.{Machine, Never}
use Rattle.law_machines.specs.Terms.{CountedSystem, CountedStand}
use Rattle.kind_counted.specs.Certificate.{counted_of}
use Rattle.kind_counted.specs.inside.Judging.{AllGoOn}
use Rattle.kind_counted.proofs.JudgingLaws.{ok_then, stands_from, stands_items}
use Rattle.law_machines.proofs.CountedLaws.{counted_never}
use Rattle.kind_counted.proofs.certificate.CountedAutomata.check.Goals as goal

pub returns-clause-stands : goal.returns-clause-stands
returns-clause-stands c =
    let m : Machine = entry_of c.args.t.now in
    let w : CountedSystem = counted_of c.args.self.now in
    let items = c.args.self.now.items.items in
    ok_then c.check_items.result (λ _. AllGoOn m w items (length items)) (λ _. CountedStand m w)
    (λ _ all. stands_from m c.args.self.now c.in_ok-check_form.ensures.formed c.in_ok-check_start.ensures.starts all) c.check_items.ensures.all

pub returns-clause-never : goal.returns-clause-never
returns-clause-never c =
    let m : Machine = entry_of c.args.t.now in
    let w : CountedSystem = counted_of c.args.self.now in
    let items = c.args.self.now.items.items in
    ok_then c.check_items.result (λ _. AllGoOn m w items (length items)) (λ _. Never m)
    (λ _ all. counted_never m w (stands_from m c.args.self.now c.in_ok-check_form.ensures.formed c.in_ok-check_start.ensures.starts all)) c.check_items.ensures.all

pub returns-clause-fails : goal.returns-clause-fails
returns-clause-fails c = λ e stands. c.check_items.ensures.fails e (stands_items (entry_of c.args.t.now) c.args.self.now stands)
