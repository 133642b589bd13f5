use Rattle.std.proofs.Common.{◌≡◌}
use Rattle.std.specs.Prelude.{Contains}
use Rattle.machine_text.specs.Terms.{Packed}
use Rattle.cmd_parts.specs.Look.{ComesOf}
use Rattle.cmd_parts.proofs.answer.root_among.Given as goal

-- the roots that are left are of all, and among them stands each one of which the table is
abbrev pub invariant-loop-root : goal.invariant-loop-root
invariant-loop-root l = record {
  some : (root : Packed) → Contains l.root-iterator root → Contains l.fn.roots root;
  each : (root : Packed) → Contains l.fn.roots root → ComesOf l.t root → Contains l.root-iterator root;
}
