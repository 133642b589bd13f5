-- The terms of this crate: what others cite of its definitions, under one name.
pub use Rattle.cmd_lines.specs.Answer.{Answers, AnswersRecord, SaysOfRecord, SaysOfTable, fault_text, read_line, read_line_table, table_read}
pub use Rattle.cmd_lines.specs.Lines.{AreFirstLines, AreLines, AreOneLineEach, AreTakenInTurn, HasTakenLines, lent}
pub use Rattle.cmd_lines.specs.Listed.{ListsFirst, ListsTables}
pub use Rattle.cmd_lines.specs.Stream.{AnswersFirst, AnswersStream, AreAnswered, AreTakenBy, EndsSaying, IsSaidToFirst, SaysAnswer, TakesStream, WritesFirst, first_fault}
