use Rattle.std.proofs.Common.{rules, ◌≡◌, refl, subst}
use Rattle.std.specs.Prelude.{codes, List, ℕ, Ok, Some}
use Rattle.cmd_ledgers.proofs.TreeReports.{on_err}
use Rattle.cmd_ledgers.specs.Terms.{AtSomeTime}
use Rattle.cmd_parts.specs.Settle.{path_within}
use Rattle.cmd_parts.proofs.SplitTrees.{leaves_parts, leaves_trunk, split_so}
use Rattle.cmd_parts.proofs.split.split_in.Goals as goal

pub returns-clause-splits : goal.returns-clause-splits
returns-clause-splits g c =
    let splitting = c.args.splitting.now in
    let tells = g.H.Files.tells_same c.args.host.now in
    let first : c.deref.result.now ≡ path_within splitting.folder.now (codes "trunk") = search rules in
    let locked : c.deref-2.result.now ≡ path_within splitting.folder.now (codes "trunk") = search rules in
    let second : c.deref-3.result.now ≡ path_within splitting.folder.now (codes "trunk") = search rules in
    let grown = c.in_ok-trunk.ensures in (
      refl,
      (c.in_ok-_lock._lock, subst (λ (p : List ℕ). g.H.Files.locks p (Ok (Some c.in_ok-_lock._lock))) locked c.in_ok-_lock.ensures),
      split_so (AtSomeTime _ g.D.Decider.answers) tells (g.H.Files.tells_same c.begin_folder.new.host) (g.H.Files.tells_same c.grown_trunk.new.host) splitting.states splitting.filled splitting.folder.now
          c.deref.result.now c.deref-3.result.now (g.H.Files.holds c.args.host.now) (g.H.Files.holds c.begin_folder.new.host) (g.H.Files.holds c.grown_trunk.new.host) (g.H.Files.holds c.split_off.new.host)
          c.in_ok-trunk.trunk (g.W.Write.contents c.args.answers.now) (g.W.Write.contents c.split_off.new.answers)
          first second c.in_ok-begin_folder.ensures.ok c.begin_folder.ensures.tells grown.grows grown.root c.grown_trunk.ensures.tells c.in_ok-split_off.ensures.begun c.in_ok-split_off.ensures.told,
    )

pub returns-in_err-trunk-clause-leaves : goal.returns-in_err-trunk-clause-leaves
returns-in_err-trunk-clause-leaves g c =
    let splitting = c.args.splitting.now in
    let lock = c.in_ok-_lock._lock in
    let first : c.deref.result.now ≡ path_within splitting.folder.now (codes "trunk") = search rules in
    let locked : c.deref-2.result.now ≡ path_within splitting.folder.now (codes "trunk") = search rules in
    let second : c.deref-3.result.now ≡ path_within splitting.folder.now (codes "trunk") = search rules in
    on_err c.from_residual-in_err-trunk.result (leaves_trunk (AtSomeTime _ g.D.Decider.answers) (g.H.Files.locks (path_within splitting.folder.now (codes "trunk")))
    (g.H.Files.tells_same c.args.host.now) splitting.states splitting.filled splitting.folder.now (g.H.Files.holds c.args.host.now) (g.H.Files.holds c.grown_trunk.new.host)
    (g.H.Files.tells_same c.begin_folder.new.host) c.deref.result.now c.deref-3.result.now (g.H.Files.holds c.begin_folder.new.host) first c.in_ok-begin_folder.ensures.ok
    lock (subst (λ (p : List ℕ). g.H.Files.locks p (Ok (Some lock))) locked c.in_ok-_lock.ensures) second c.begin_folder.ensures.tells c.in_err-trunk.ensures.leaves)

pub returns-in_err-split_off-clause-leaves : goal.returns-in_err-split_off-clause-leaves
returns-in_err-split_off-clause-leaves g c =
    let splitting = c.args.splitting.now in
    let lock = c.in_ok-_lock._lock in
    let first : c.deref.result.now ≡ path_within splitting.folder.now (codes "trunk") = search rules in
    let locked : c.deref-2.result.now ≡ path_within splitting.folder.now (codes "trunk") = search rules in
    let second : c.deref-3.result.now ≡ path_within splitting.folder.now (codes "trunk") = search rules in
    let grown = c.in_ok-trunk.ensures in
    on_err c.from_residual-in_err-split_off.result (leaves_parts (AtSomeTime _ g.D.Decider.answers) (g.H.Files.locks (path_within splitting.folder.now (codes "trunk")))
    (g.H.Files.tells_same c.args.host.now) splitting.states splitting.filled splitting.folder.now (g.H.Files.holds c.args.host.now) (g.H.Files.holds c.split_off.new.host)
    (g.H.Files.tells_same c.begin_folder.new.host) c.deref.result.now c.deref-3.result.now (g.H.Files.holds c.begin_folder.new.host) first c.in_ok-begin_folder.ensures.ok
    (g.H.Files.tells_same c.grown_trunk.new.host) (g.H.Files.holds c.grown_trunk.new.host) c.in_ok-trunk.trunk
    lock (subst (λ (p : List ℕ). g.H.Files.locks p (Ok (Some lock))) locked c.in_ok-_lock.ensures) second c.begin_folder.ensures.tells grown.grows grown.root c.grown_trunk.ensures.tells c.in_err-split_off.ensures.leaves)
