-- The terms of this crate: what others cite of its definitions, under one name.
pub use Rattle.text.specs.Fields.{AreFields, BeginsWithLine, BoundedLine, HasNoNewline, IsCut, IsField, IsShort, bounded_line, cut_at, joined, made_of, parts_of, spaced, with_more, with_value, worth_of}
unfoldable pub use Rattle.text.specs.Fields.{decimal_value}
pub use Rattle.text.specs.Limits.{line_byte_limit}
