-- The terms of this crate: what others cite of its definitions, under one name.
pub use Rattle.kind_evidence.specs.Verdict.{IsKind, IsLetter, IsTrueOf, Kind, Meaning, ending_of, refused_number, room_for_fields, side_of, side_text}
unfoldable pub use Rattle.kind_evidence.specs.Verdict.{each_below}
