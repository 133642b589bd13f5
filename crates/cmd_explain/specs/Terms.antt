-- The terms of this crate: what others cite of its definitions, under one name.
pub use Rattle.cmd_explain.specs.Explained.{SaysDrawn, SaysExplained, SaysSeen}
