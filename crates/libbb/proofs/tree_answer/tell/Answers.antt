use Rattle.std.proofs.Common.{◌≡◌, ◌≤◌, ℕ, subst, sym, ◌∙◌}
use Rattle.machine_text.specs.Terms.{state_limit}
use Rattle.law_turing.specs.Terms.{IsRado}
use Rattle.ledger.specs.Terms.{IsSigma}
use Rattle.libbb.proofs.LoadedTexts.{best_said, ones_said, whole_root}
use Rattle.libbb.proofs.tree_answer.tell.Goals as goal

pub returns-clause-rado : goal.returns-clause-rado
returns-clause-rado c =
    rw (c.told.ensures) (λ outcome whole has.
    let states : c.from.result ≡ c.root-root.result.now.states = c.from.ensures ∙ c.states-states.ensures.states in
    let table = c.states-states.ensures.table in
    let root = whole_root c.root-root.result.now c.args.board.now.root c.from.result c.whole-is_whole.result c.root-root.ensures.root states c.whole-is_whole.ensures whole in
    best_said c.args.board.now.root c.args.board.now.records c.status.result c.tally.result.best (IsRado c.from.result) c.status.ensures.stands c.tally.ensures.best
    (λ s ones e. c.status.ensures.rado c.from.result s ones (subst (λ (n : ℕ). 1 ≤ n) (sym states) table.some) (subst (λ (n : ℕ). n ≤ state_limit) (sym states) table.limit) root e) outcome has)

pub returns-clause-sigma : goal.returns-clause-sigma
returns-clause-sigma c =
    rw (c.told.ensures) (λ outcome whole has.
    let states : c.from.result ≡ c.root-root.result.now.states = c.from.ensures ∙ c.states-states.ensures.states in
    let table = c.states-states.ensures.table in
    let root = whole_root c.root-root.result.now c.args.board.now.root c.from.result c.whole-is_whole.result c.root-root.ensures.root states c.whole-is_whole.ensures whole in
    ones_said c.args.board.now.root c.args.board.now.records c.status.result c.tally.result.ones (IsSigma c.from.result) c.status.ensures.stands c.tally.ensures.ones
    (λ s best e. c.status.ensures.sigma c.from.result s best (subst (λ (n : ℕ). 1 ≤ n) (sym states) table.some) (subst (λ (n : ℕ). n ≤ state_limit) (sym states) table.limit) root e) outcome has)
