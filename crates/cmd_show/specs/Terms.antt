-- The terms of this crate: what others cite of its definitions, under one name.
pub use Rattle.cmd_show.specs.Drawn.{DrawsFiles, DrawsFirstLines, EndsPicture}
pub use Rattle.cmd_show.specs.Shown.{AreWholeLines, EndsInLines}
