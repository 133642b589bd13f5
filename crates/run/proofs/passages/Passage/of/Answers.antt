use Rattle.std.proofs.Common.{◌≡◌, ℕ, ℤ, ◌+◌, ◌<◌, pos, ap, sym, ◌∙◌, subst, arith}
use Rattle.machine_text.specs.Terms.{entry_of}
use Rattle.law_turing.specs.Terms.{moved_head}
use Rattle.run.specs.Steps.{LeavesSo, beyond}
use Rattle.run.proofs.Standings.{leads_none, leads_more}
use Rattle.run.proofs.passages.Passage.of.Goals as goal

pub loop-done-init : goal.loop-done-init
loop-done-init c = record { inside = c.requires.at; state = c.requires.state; leads = leads_none (entry_of c.args.table.now) c.args.state.0 c.args.window }

pub returns-in-None-clause-passes : goal.returns-in-None-clause-passes
returns-in-None-clause-passes c =
    let m = entry_of c.args.table.now in
    let s = c.loop-done in
    let e = c.in_ok-entry.entry in
    let more = leads_more m c.args.state.0 c.args.window s.done s.at_state.0 s.now.cells s.now.at e c.write.new.self.cells s.invariant.leads s.invariant.inside (ap (m s.at_state.0) (sym c.read.ensures) ∙ sym c.in_ok-entry.ensures.entry) c.write.ensures.here c.write.ensures.others in
    let leaves : moved_head (pos s.now.at) e.dir ≡ beyond e.dir = ap (λ n. moved_head (pos n) e.dir) (sym c.write.ensures.at) ∙ c.in-None.ensures.none in
    record { some = omega arith; leads = subst (λ (z : ℤ). LeavesSo m c.args.state.0 c.args.window (s.done + 1) e.next.0 c.write.new.self.cells z) leaves more }

pub loop-done-preserved : goal.loop-done-preserved
loop-done-preserved c =
    let m = entry_of c.args.table.now in
    let s = c.loop-done in
    let e = c.in_ok-entry.entry in
    let more = leads_more m c.args.state.0 c.args.window s.done s.at_state.0 s.now.cells s.now.at e c.write.new.self.cells s.invariant.leads s.invariant.inside (ap (m s.at_state.0) (sym c.read.ensures) ∙ sym c.in_ok-entry.ensures.entry) c.write.ensures.here c.write.ensures.others in
    let next = c.in-Some.next in
    let there = c.in-Some.ensures.some in
    let goes : moved_head (pos s.now.at) e.dir ≡ pos next.at = ap (λ n. moved_head (pos n) e.dir) (sym c.write.ensures.at) ∙ there.2 in
    record {
      inside = there.1;
      state = c.in_ok-entry.ensures.next;
      leads = subst (λ (z : ℤ). LeavesSo m c.args.state.0 c.args.window (s.done + 1) e.next.0 next.cells z) goes
          (subst (λ (n : ℕ). LeavesSo m c.args.state.0 c.args.window (s.done + 1) e.next.0 n (moved_head (pos s.now.at) e.dir)) (sym there.0) more);
    }
