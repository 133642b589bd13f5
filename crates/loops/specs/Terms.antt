-- The terms of this crate: what others cite of its definitions, under one name.
pub use Rattle.loops.specs.Kinds.{cycle_kind, translated_kind}
pub use Rattle.loops.specs.Limits.{time_limit}
