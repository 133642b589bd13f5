use Rattle.std.proofs.Common.{inl, inr}
use Rattle.cmd_parts.proofs.FolderAnswers.{found_kept}
use Rattle.cmd_parts.proofs.look.FolderLook.look_up.Goals as goal

pub returns-in_ok-append_by_part-in-Some-clause-kept :
    goal.returns-in_ok-append_by_part-in-Some-clause-kept
returns-in_ok-append_by_part-in-Some-clause-kept g c = λ kept.
    found_kept (g.S.PartLedgers.finds c.args.self.now.parts.now) c.args.self.now.folder.now _ c.bring.new.self.part (c.in_ok-bring-in-Some.ensures.found kept)

pub returns-in_ok-append_by_part-in-Some-clause-says :
    goal.returns-in_ok-append_by_part-in-Some-clause-says
returns-in_ok-append_by_part-in-Some-clause-says g c =
    let said = c.in_ok-append_by_part-in-Some.ensures in (
      said.0,
      λ kept. let found = c.in_ok-bring-in-Some.ensures.found kept in inr (inl (record {
        root = c.in-Some.root;
        is_open = c.in-Some.ensures.some.0;
        of_root = c.in-Some.ensures.some.1;
        counted = c.bring.new.self.part;
        wrong = found.0.0;
        met = found.0.1;
        says = said.1;
      })),
      said.2,
    )
