-- The terms of this crate: what others cite of its definitions, under one name.
pub use Rattle.backward.specs.Kind.{backward_kind}
