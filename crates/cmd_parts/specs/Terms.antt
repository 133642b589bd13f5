-- The terms of this crate: what others cite of its definitions, under one name.
pub use Rattle.cmd_parts.specs.AtPaths.{CollectsAt, IsCreated, JoinsAt, SettlesAt, SplitsAt, finds_at}
pub use Rattle.cmd_parts.specs.Join.{Findings, IsGathered, TellsAll, TellsParts, WarnsFirst, ended_by}
pub use Rattle.cmd_parts.specs.Look.{AnswersFirstBy, AnswersLines, PrintsAt}
pub use Rattle.cmd_parts.specs.Settle.{IsWalkedBoard, WalksTree, path_within}
pub use Rattle.cmd_parts.specs.Stream.{JoinsStream}
