use Rattle.std.proofs.Common.{rules, ◌≡◌, List, ◌∷◌, inl, inr, sym, subst}
use Rattle.machine_text.specs.Terms.{Packed, text_of}
use Rattle.cmd_ledgers.proofs.TreeReports.{on_err}
use Rattle.cmd_parts.specs.AtPaths.{AreBegunAt, LeavesPartsAt}
use Rattle.cmd_parts.specs.Settle.{path_within}
use Rattle.cmd_parts.proofs.SplitTrees.{begun_told, left_told, told_then}
use Rattle.cmd_parts.proofs.folder.begin_parts.Goals as goal

pub loop-root-preserved : goal.loop-root-preserved
loop-root-preserved g c =
    let is : c.loop-root.root-iterator ≡ c.in-Some.root.now ∷ c.next.new.self = search rules in
    let (roots, all, told, will, may) = c.loop-root.invariant in
    let first = g.H.Files.tells_same c.args.host.now in
    let now = g.H.Files.tells_same c.loop-root.host in
    let old = g.H.Files.holds c.loop-root.host in
    let middle = g.H.Files.holds c.begin_part_in.new.host in
    let begun = begun_told first now (path_within c.args.folder.now (text_of c.in-Some.root.now)) c.in-Some.root.now old middle told c.in_ok-begin_part_in.ensures.ok in (
      roots,
      all,
      told_then first now (g.H.Files.tells_same c.begin_part_in.new.host) told c.begin_part_in.ensures.tells,
      λ new rest. will new (subst (λ (l : List Packed). AreBegunAt first c.args.folder.now l old new) (sym is) (middle, begun, rest)),
      λ new rest. may new (subst (λ (l : List Packed). LeavesPartsAt first c.args.folder.now l old new) (sym is) (inr (middle, begun, rest))),
    )

pub returns-in_err-begin_part_in-clause-leaves : goal.returns-in_err-begin_part_in-clause-leaves
returns-in_err-begin_part_in-clause-leaves g c =
    let is : c.loop-root.root-iterator ≡ c.in-Some.root.now ∷ c.next.new.self = search rules in
    let (roots, all, told, will, may) = c.loop-root.invariant in
    let first = g.H.Files.tells_same c.args.host.now in
    let now = g.H.Files.tells_same c.loop-root.host in
    let old = g.H.Files.holds c.loop-root.host in
    let new = g.H.Files.holds c.begin_part_in.new.host in
    let left = left_told first now (path_within c.args.folder.now (text_of c.in-Some.root.now)) c.in-Some.root.now old new told c.in_err-begin_part_in.ensures.leaves in
    on_err c.from_residual.result (roots, all, may new (subst (λ (l : List Packed). LeavesPartsAt first c.args.folder.now l old new) (sym is) (inl left)))
