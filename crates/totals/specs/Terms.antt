-- The terms of this crate: what others cite of its definitions, under one name.
pub use Rattle.totals.specs.Totals.{AddGives, AreParts, Collected, IsAnswered, IsWalked, IsWhole, Walked, WalksOn, joined_with}
