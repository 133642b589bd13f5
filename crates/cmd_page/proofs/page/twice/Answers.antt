use Rattle.std.proofs.Common.{sym, subst}
use Rattle.ledger.specs.Terms.{IsHoldout, AreAll, IsChampion, IsOnesChampion}
use Rattle.cmd_page.proofs.page.twice.Goals as goal

pub returns : goal.returns
returns c = λ root rs tells.
    let tally = c.args.told.tally in (
      record {
        root_is = tells.root_is;
        stands = tells.stands;
        counted = tells.counted;
        are_champions = subst (AreAll (IsChampion rs tally.best)) (sym c.in_ok-champions.ensures.first) tells.are_champions;
        are_ones_champions = subst (AreAll (IsOnesChampion rs tally.ones)) (sym c.in_ok-ones_champions.ensures.first) tells.are_ones_champions;
        are_holdouts = subst (AreAll (IsHoldout rs)) (sym c.in_ok-holdouts.ensures.first) tells.are_holdouts;
      },
      record {
        root_is = tells.root_is;
        stands = tells.stands;
        counted = tells.counted;
        are_champions = subst (AreAll (IsChampion rs tally.best)) (sym c.in_ok-champions.ensures.second) tells.are_champions;
        are_ones_champions = subst (AreAll (IsOnesChampion rs tally.ones)) (sym c.in_ok-ones_champions.ensures.second) tells.are_ones_champions;
        are_holdouts = subst (AreAll (IsHoldout rs)) (sym c.in_ok-holdouts.ensures.second) tells.are_holdouts;
      },
    )
