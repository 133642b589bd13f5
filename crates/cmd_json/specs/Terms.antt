-- The terms of this crate: what others cite of its definitions, under one name.
pub use Rattle.cmd_json.specs.Forms.{IsJsonReport, IsText, form_of}
pub use Rattle.cmd_json.specs.Objects.{AnswersFirstNumbered, AnswersNumbered, AreAnsweredBehind, SaysChecked, SaysDecided, SaysNumbered, SaysTold, number_behind}
