-- The terms of this crate: what others cite of its definitions, under one name.
pub use Rattle.cmd_ledgers.specs.LedgerReport.{AreFirstBytes, BeginsWithRoot, EndsLedger, EndsReading, IsLines, IsLoadedFrom, WritesLedger, ended_by_load, outcome_by}
pub use Rattle.cmd_ledgers.specs.Merge.{CarriesAt, IsAt, MendsAt, MergesAt, Readings, ReportsFrom, SaysWhy}
pub use Rattle.cmd_ledgers.specs.Report.{EndsByReport, FormText, IsReportIn, IsToldOf, IsTreeReportIn, ReportsIncomplete, ReportsTree, SettlesTree, TellsByReport, TellsRadoIn, TellsTree, bytes_of_lines, status_name}
pub use Rattle.cmd_ledgers.specs.Retry.{AtSomeTime, GoesOnAt, HasGrown, HasPartOf, LeavesAt, LeavesLedger, MayBeCut, RetriesAt, StaysInStep, gained, kept_part, with_line}
