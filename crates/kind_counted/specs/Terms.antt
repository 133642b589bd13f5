-- The terms of this crate: what others cite of its definitions, under one name.
pub use Rattle.kind_counted.specs.CountedCosets.{coset_texts_of}
pub use Rattle.kind_counted.specs.Kind.{AreCosetsOf, AreWithinLimits, CosetTexts, counted_kind}
pub use Rattle.kind_counted.specs.OwnedCosets.{owned_coset_texts}
