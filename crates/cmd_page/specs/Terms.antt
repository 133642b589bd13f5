-- The terms of this crate: what others cite of its definitions, under one name.
pub use Rattle.cmd_page.specs.Page.{IsPage, TellsFolder, WritesRecords, ledger_heading, records_heading}
