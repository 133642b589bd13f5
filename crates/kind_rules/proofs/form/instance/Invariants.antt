use Rattle.std.proofs.Common.{◌≡◌, ◌++◌, drop}
use Rattle.std.specs.Prelude.{option_map}
use Rattle.law_induction.specs.Terms.{instance_of}
use Rattle.kind_rules.proofs.form.instance.Given as goal

abbrev pub invariant-loop-block : goal.invariant-loop-block
invariant-loop-block l = option_map (λ rest. l.row.items ++ rest) (instance_of l.by (drop l.block-index l.blocks)) ≡ instance_of l.by l.blocks
