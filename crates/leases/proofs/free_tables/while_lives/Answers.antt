use Rattle.std.proofs.Common.{◌&&◌, not, sym, ◌∙◌, ap, if◌then◌else◌, Some, None, map}
use Rattle.leases.specs.Leases.{is_live}
use Rattle.leases.specs.inside.{as_lease, is_numbered}
use Rattle.leases.proofs.LiveLaws.{live_without, and_false}
use Rattle.leases.proofs.free_tables.while_lives.Goals as goal
use Rattle.leases.proofs.free_tables.while_lives.Goals.{else-lives-via-then-lives+else-not-is_numbered, else-lives-via-else-lives}

pub returns-then-not-is_numbered : goal.returns-then-not-is_numbered
returns-then-not-is_numbered c =
    ap (λ b. if b then Some c.args.number else None) (sym (live_without c.args.but c.args.live.now c.args.number
    ∙ (ap (λ b. b && not (is_numbered c.args.but c.args.number)) (sym c.lives.ensures ∙ c.if-lives.true) ∙ ap not (sym c.is_numbered.ensures ∙ c.if-not-is_numbered.true))))

pub returns-else-lives : goal.returns-else-lives
returns-else-lives c =
    let live = is_live (map as_lease c.args.live.now) c.args.number in
    ap (λ b. if b then Some c.args.number else None) (sym (live_without c.args.but c.args.live.now c.args.number ∙ elim c.else-lives.branch [
      | else-lives-via-then-lives+else-not-is_numbered w ↦ ap (λ b. live && not b) (sym w.is_numbered.ensures ∙ w.if-not-is_numbered.false) ∙ and_false live
      | else-lives-via-else-lives w ↦ ap (λ b. b && not (is_numbered c.args.but c.args.number)) (sym c.lives.ensures ∙ w.if-lives.false)
    ]))
