-- The terms of this crate: what others cite of its definitions, under one name.
pub use Rattle.kind_named.specs.Kind.{named_kind}
