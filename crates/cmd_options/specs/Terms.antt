-- The terms of this crate: what others cite of its definitions, under one name.
pub use Rattle.cmd_options.specs.Ends.{EndsTold, IsCutShort, IsTold, PrintsNothing}
pub use Rattle.cmd_options.specs.Kinds.{kind_letters}
pub use Rattle.cmd_options.specs.Outcome.{ended_line, ended_text, outcome_of}
pub use Rattle.cmd_options.specs.Ranges.{AreWithinRanges, IsBeginning, IsListening, IsSettling, IsSplitting, IsWalking, IsWithinRange, IsWorking}
