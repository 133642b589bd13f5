use Rattle.std.proofs.Common.{◌∙◌, sym, refl}
use Rattle.kind_named.proofs.Openings.{within_rest, below_taken, wound_taken, same_put}
use Rattle.kind_named.proofs.Leading.{lead_cross, lead_same, lead_separator, lead_blank}
use Rattle.kind_named.proofs.steps.step_left.Goals as goal

pub returns-in_default : goal.returns-in_default
returns-in_default c =
    lead_blank _ _ _ _ _ _ c.requires (c.if-not-is_blank.ensures refl) (sym c.args.left.now.ok.0 ∙ c.in_default.ensures.cases.0) c.in_default.ensures.items c.in_ok-extend_from_slice.ensures.items

pub at_separator-requires : goal.at_separator-requires
at_separator-requires c = within_rest _ _ _ _ c.in-Some.ensures.items c.requires.on_left

pub returns-in-Separator : goal.returns-in-Separator
returns-in-Separator c = lead_separator _ _ _ c.at_separator.ensures.old _ _ _ c.requires _ _ _ _ c.in-Some.ensures.items c.in-Separator.is c.in_ok-answer.ensures.turns

pub open_wound-requires : goal.open_wound-requires
open_wound-requires c = record {
  within = within_rest _ _ _ _ c.in-Some.ensures.items c.requires.on_left;
  rope = wound_taken _ _ _ _ _ c.in-Some.ensures.items c.in-Wound.is c.requires.on_left;
}

pub returns-in-Wound : goal.returns-in-Wound
returns-in-Wound c = lead_same _ _ _ c.open_wound.ensures.old _ _ _ c.requires _ (same_put _ _ _ _ _ _ _ c.in-Some.ensures.items c.in-Wound.is c.in_ok-open_wound.ensures.put)

pub put_right-requires : goal.put_right-requires
put_right-requires c = record {
  right = c.requires.on_right;
  token = below_taken _ _ _ _ c.in-Some.ensures.items c.requires.on_left;
}

pub returns : goal.returns
returns c = lead_cross _ _ _ _ _ _ _ c.requires c.in-Some.ensures.items (c.if-not-is_plain.ensures refl) c.in_ok-put_right.ensures
