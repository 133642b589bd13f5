use Rattle.std.proofs.Common.{◌≡◌, ◌∙◌, List, Some, ap, get_or, sym, true, ℕ}
use Rattle.std.specs.Prelude.{position}
use Rattle.peers.specs.Guard.{AskerState, GuardState, is_of}
use Rattle.peers.specs.Passing.{is_idle_at, is_spent}
use Rattle.peers.proofs.Answering.{asks_idle, asks_spent}
use Rattle.peers.proofs.guard.Guard.ask_passage.Goals as goal

pub returns-else-not-is_idle : goal.returns-else-not-is_idle
returns-else-not-is_idle c =
    let guard = c.args.self.now in
    let place = c.in-Some.place in
    let same : c.self.inside.askers.items ≡ guard.askers = ap (λ (s : GuardState). s.askers) c.self.view_is in
    let records : c.self.inside.records ≡ guard.records = ap (λ (s : GuardState). s.records) c.self.view_is in
    let at : c.index-asker.result.now ≡ get_or guard.askers place c.index-asker.result.now =
    c.index-asker.ensures ∙ ap (λ (askers : List AskerState). get_or askers place c.index-asker.result.now) same in
    let found : position (is_of c.args.id) guard.askers ≡ Some place = sym c.place_of.ensures ∙ c.in-Some.is in
    let idle : is_idle_at guard.records c.index-asker.result.now ≡ true =
    ap (λ (n : ℕ). is_idle_at n c.index-asker.result.now) (sym records) ∙ (sym c.is_idle.ensures ∙ c.if-not-is_idle.false) in
    asks_idle guard c.args.id place c.index-asker.result.now c.idle_passage.result found at idle c.idle_passage.ensures

pub returns-in-Some-first_spent : goal.returns-in-Some-first_spent
returns-in-Some-first_spent c =
    let guard = c.args.self.now in
    let place = c.in-Some-first_spent.place in
    let same : c.self.inside.askers.items ≡ guard.askers = ap (λ (s : GuardState). s.askers) c.self.view_is in
    let at : c.index.result.now ≡ get_or guard.askers place c.index.result.now =
    c.index.ensures ∙ ap (λ (askers : List AskerState). get_or askers place c.index.result.now) same in
    let found : position (is_spent guard.records) guard.askers ≡ Some place = sym c.first_spent.ensures ∙ c.in-Some-first_spent.is in
    asks_spent guard c.args.id place c.index.result.now c.idle_passage-in-Some-first_spent.result found at
    c.idle_passage-in-Some-first_spent.ensures
