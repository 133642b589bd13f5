-- The terms of this crate: what others cite of its definitions, under one name.
pub use Rattle.law_tree.specs.Tree.{AreTrueMarks, AreTrueScores, Halting, HaltsOn, Holdout, InOrder, InTableTree, IsBestOfTable, IsChild, IsChildEntry, IsChildTable, IsClosed, IsComplete, IsDecidedTable, IsGreatestInTables, IsGreatestOfAll, IsGreatestRecorded, IsOpen, IsTrueMark, IsUsed, IsVerdict, Itself, Mark, NeverHalting, OfChild, Scores, empty_machine, entries_to, has_entry, leads_to}
unfoldable pub use Rattle.law_tree.specs.Tree.{child_entries, children_at, is_target, is_used, used_count}
